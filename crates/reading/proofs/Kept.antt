-- What is kept, in document 01's words: exactly the rows that no set of rows kept before them sums to; the kept rows are
-- independent and span all rows; each other row is the sum of exactly one set of them.
-- Assumes nothing.
use mathlib.Core.Path.{◌≡◌, refl, sym, ap, ◌∙◌, subst}
use Prim.Native.Nat.{ℕ, suc, ◌+◌, ◌*◌, ◌^◌, ◌≤◌}
use native.Mathlib.Nat.{add-zero}
use mathlib.Core.Bool.{Bool, true, false, cond, not, or-true, false≢true}
use mathlib.Core.List.{List, [], ◌∷◌, ◌++◌, map, append-nil, Memᴰ}
use mathlib.Core.Logic.{◌↔◌}
use lib.ListN.{length, get_or}
use lib.Seq.{append_snoc, get_or-append-add}
use Rattle.space.specs.Lists.{select, All, Below}
use Rattle.space.specs.Space.{sum_of, spans, set_of, independent}
use Rattle.space.proofs.Lists.{all_at, select-all, select_below}
use Rattle.space.proofs.Xor.{⊕_self}
use Rattle.space.proofs.Sets.{spans_zero, spans-snoc, spans-append, spans_exactly, independent-snoc, set_of-sum, set_of_unique}
use Rattle.space.proofs.Dimension.{independent-most}
use Rattle.rows.specs.Rows.{constraint}
use Rattle.rows.proofs.Sums.{rows_lt}
use Rattle.reading.specs.Reading.{kept_after, kept, kept_rows, other_rows, rank}

-- ---- rows in two runs

-- the rows kept among rows that come after some kept already
abbrev pub kept_next : List ℕ → List ℕ → List ℕ
kept_next before rows = select (kept_after before rows) rows

module _ (more : List ℕ) where
  append-step : (x : ℕ) (rows before : List ℕ)
      → ((before : List ℕ) → kept_after before (rows ++ more) ≡ kept_after before rows ++ kept_after (before ++ kept_next before rows) more)
      → (b : Bool) → spans before x ≡ b
      → kept_after before (x ∷ (rows ++ more)) ≡ kept_after before (x ∷ rows) ++ kept_after (before ++ kept_next before (x ∷ rows)) more
  unfolding kept_after select
  append-step x rows before ih true e = rw e (ap (λ t. false ∷ t) (ih before))
  append-step x rows before ih false e =
      rw e (ap (λ t. true ∷ t) (ih (before ++ (x ∷ [])) ∙ rw (append_snoc before x (kept_next (before ++ (x ∷ [])) rows))))

  kept_after-append : (rows before : List ℕ) → kept_after before (rows ++ more) ≡ kept_after before rows ++ kept_after (before ++ kept_next before rows) more
  unfolding kept_after select
  kept_after-append [] before = rw (append-nil before)
  kept_after-append (x ∷ rows) before = append-step x rows before (kept_after-append rows) (spans before x) refl

pub kept_append : (rows more : List ℕ) → kept (rows ++ more) ≡ kept rows ++ kept_after (kept_rows rows) more
unfolding kept kept_rows
kept_append rows more = kept_after-append more rows []

length-kept_after : (rows before : List ℕ) → length (kept_after before rows) ≡ length rows
unfolding kept_after
length-kept_after [] before = refl
length-kept_after (x ∷ rows) before = go (spans before x) (length-kept_after rows before) (length-kept_after rows (before ++ (x ∷ [])))
  where
    go : (b : Bool) → length (kept_after before rows) ≡ length rows → length (kept_after (before ++ (x ∷ [])) rows) ≡ length rows
        → length (cond b (false ∷ kept_after before rows) (true ∷ kept_after (before ++ (x ∷ [])) rows)) ≡ suc (length rows)
    go true p q = ap suc p
    go false p q = ap suc q

pub length-kept : (rows : List ℕ) → length (kept rows) ≡ length rows
unfolding kept
length-kept rows = length-kept_after rows []

-- ---- exactly which rows are kept

-- at its place, a row is kept when the rows kept before it do not span it
pub kept_at : (before : List ℕ) (r : ℕ) (after : List ℕ) → get_or (kept (before ++ r ∷ after)) (length before) false ≡ not (spans (kept_rows before) r)
kept_at before r after =
    rw (kept_append before (r ∷ after)) (ap (λ (i : ℕ). get_or (kept before ++ kept_after (kept_rows before) (r ∷ after)) i false) place
    ∙ get_or-append-add (kept before) (kept_after (kept_rows before) (r ∷ after)) 0 false ∙ first (spans (kept_rows before) r) refl)
  where
    place : length before ≡ length (kept before) + 0
    place = sym (add-zero (length (kept before)) ∙ length-kept before)

    first : (b : Bool) → spans (kept_rows before) r ≡ b → get_or (kept_after (kept_rows before) (r ∷ after)) 0 false ≡ not b
    first true e = unfold kept_after in rw e
    first false e = unfold kept_after in rw e

-- "A row is kept exactly when it is no exclusive-or of rows kept before it, as a whole row"
pub kept_exactly : (before : List ℕ) (r : ℕ) (after : List ℕ)
    → (get_or (kept (before ++ r ∷ after)) (length before) false ≡ true) ↔ ((set : List Bool) → sum_of (kept_rows before) set ≡ r → ⊥)
kept_exactly before r after =
    rw (kept_at before r after) (
      λ h set e. apart (spans (kept_rows before) r) h ((spans_exactly (kept_rows before) r).1 (set, e)),
      λ none. missing (spans (kept_rows before) r) refl none,
    )
  where
    apart : (b : Bool) → not b ≡ true → b ≡ true → ⊥
    apart true h e = false≢true h
    apart false h e = false≢true e

    missing : (b : Bool) → spans (kept_rows before) r ≡ b → ((set : List Bool) → sum_of (kept_rows before) set ≡ r → ⊥) → not b ≡ true
    missing true e none = absurd (none (set_of (kept_rows before) r) (set_of-sum (kept_rows before) r e))
    missing false e none = refl

-- "An all-zero row is never kept."
pub zero_never_kept : (before after : List ℕ) → get_or (kept (before ++ 0 ∷ after)) (length before) false ≡ false
zero_never_kept before after = kept_at before 0 after ∙ rw (spans_zero (kept_rows before))

-- ---- "The kept rows are independent and span all rows."

module _ (r : ℕ) (rows before : List ℕ) (i : independent before ≡ true)
    (ih : (before : List ℕ) → independent before ≡ true → independent (before ++ kept_next before rows) ≡ true) where
  keep_step : (b : Bool) → spans before r ≡ b → independent (before ++ kept_next before (r ∷ rows)) ≡ true
  unfolding kept_after select
  keep_step true e = rw e (ih before i)
  keep_step false e =
      rw e (rw (← append_snoc before r (kept_next (before ++ (r ∷ [])) rows)) (ih (before ++ (r ∷ [])) (independent-snoc before r ∙ rw i (rw e))))

kept_after-independent : (rows before : List ℕ) → independent before ≡ true → independent (before ++ kept_next before rows) ≡ true
unfolding kept_after select
kept_after-independent [] before i = rw (append-nil before) i
kept_after-independent (r ∷ rows) before i = keep_step r rows before i (kept_after-independent rows) (spans before r) refl

pub kept-independent : (rows : List ℕ) → independent (kept_rows rows) ≡ true
unfolding kept_rows kept independent
kept-independent rows = kept_after-independent rows [] refl

module _ (r : ℕ) (rows before : List ℕ) (ih : (before : List ℕ) → All (spans (before ++ kept_next before rows)) rows) where
  span_step : (b : Bool) → spans before r ≡ b → All (spans (before ++ kept_next before (r ∷ rows))) (r ∷ rows)
  unfolding kept_after select
  span_step true e =
      let told : kept_next before rows ≡ kept_next before (r ∷ rows) = rw e refl in
      subst (λ ks. All (spans (before ++ ks)) (r ∷ rows)) told (spans-append before (kept_next before rows) r e, ih before)
  span_step false e =
      let more = kept_next (before ++ (r ∷ [])) rows in
      let told : r ∷ more ≡ kept_next before (r ∷ rows) = rw e refl in
      subst (λ ks. All (spans ks) (r ∷ rows)) (append_snoc before r more ∙ ap (λ ks. before ++ ks) told)
      (spans-append (before ++ (r ∷ [])) more r last, ih (before ++ (r ∷ [])))
    where
      last : spans (before ++ (r ∷ [])) r ≡ true
      last = spans-snoc before r r ∙ rw (⊕_self r) (rw (spans_zero before) (or-true (spans before r)))

kept_after_span : (rows before : List ℕ) → All (spans (before ++ kept_next before rows)) rows
kept_after_span [] before = tt
kept_after_span (r ∷ rows) before = span_step r rows before (kept_after_span rows) (spans before r) refl

pub kept_span : (rows : List ℕ) → All (spans (kept_rows rows)) rows
unfolding kept_rows kept
kept_span rows = kept_after_span rows []

pub others_span : (rows : List ℕ) → All (spans (kept_rows rows)) (other_rows rows)
unfolding other_rows
others_span rows = select-all (spans (kept_rows rows)) (map not (kept rows)) rows (kept_span rows)

-- "Each other row is the sum of exactly one set of kept rows."
pub one_set : (rows : List ℕ) (r : ℕ) → Memᴰ r (other_rows rows)
    → (sum_of (kept_rows rows) (set_of (kept_rows rows) r) ≡ r)
    × ((set : List Bool) → length set ≡ rank rows → sum_of (kept_rows rows) set ≡ r → set ≡ set_of (kept_rows rows) r)
unfolding rank
one_set rows r m = (
  set_of-sum (kept_rows rows) r (all_at (spans (kept_rows rows)) (other_rows rows) (others_span rows) r m),
  λ set size e. set_of_unique (kept_rows rows) (kept-independent rows) r set size e,
)

-- ---- bounds

pub kept_below : (m : ℕ) (rows : List ℕ) → Below m rows → Below m (kept_rows rows)
unfolding kept_rows
kept_below m rows b = select_below m (kept rows) rows b

-- a list with no stray bit has a rank of at most n + 8 l
pub rank_most : (n l : ℕ) (rows : List ℕ) → Below (2 ^ n) (map (constraint l) rows) → rank rows ≤ n + 8 * l
unfolding rank
rank_most n l rows h = independent-most (n + 8 * l) (kept_rows rows) (kept_below (2 ^ (n + 8 * l)) rows (rows_lt n l rows h)) (kept-independent rows)
