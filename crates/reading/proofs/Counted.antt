-- What is known of which entries count: there is a mark for each entry, an entry counts exactly when it is not among the earlier ones, a one-to-one map
-- of the entries changes no mark, and each entry is equal to one that counts. What is said of rows that count stands on these.
-- Assumes nothing.
use mathlib.Core.Path.{◌≡◌, refl, sym, ap, ◌∙◌}
use Prim.Native.Nat.{ℕ, suc, ◌*◌, ◌^◌}
use mathlib.Core.Bool.{Bool, true, false, not}
use mathlib.Core.List.{List, [], ◌∷◌, ◌++◌, map, append-nil, Memᴰ}
use lib.Dec.{eqb}
use lib.ListN.{length, get_or}
use lib.Seq.{append_snoc, get_or_at}
use borrow.Author.Tests.{eqb-true, eqb-false, eq-eqb, ne_eqb}
use Rattle.space.specs.Lists.{Below}
use Rattle.space.specs.Space.{◌⊕◌}
use Rattle.space.proofs.Lists.{map-append}
use Rattle.space.proofs.Xor.{⊕_cancel_r}
use Rattle.rows.specs.Rows.{vector, constraint, named}
use Rattle.rows.specs.Shift.{shifted_entry}
use Rattle.rows.proofs.Shifts.{shifted-entry, shifted-constraint}
use Rattle.reading.specs.Orders.{among, counts_after, counts}
use Rattle.reading.proofs.Among.{among-append}

-- ---- the marks, one for each entry

length-counts_after : (entries before : List ℕ) → length (counts_after before entries) ≡ length entries
unfolding counts_after
length-counts_after [] before = refl
length-counts_after (e ∷ entries) before = ap suc (length-counts_after entries _)

pub length-counts : (entries : List ℕ) → length (counts entries) ≡ length entries
unfolding counts
length-counts entries = length-counts_after entries _

counts_after-append : (entries before more : List ℕ) → counts_after before (entries ++ more) ≡ counts_after before entries ++ counts_after (before ++ entries) more
unfolding counts_after
counts_after-append [] before more = rw (append-nil before)
counts_after-append (e ∷ entries) before more =
    ap (λ t. not (among before e) ∷ t) (counts_after-append entries (before ++ (e ∷ [])) more ∙ rw (append_snoc before e entries))

-- later entries change no mark of the earlier
pub counts-append : (entries more : List ℕ) → counts (entries ++ more) ≡ counts entries ++ counts_after entries more
unfolding counts
counts-append entries more = counts_after-append entries [] more

pub counts-snoc : (entries : List ℕ) (entry : ℕ) → counts (entries ++ (entry ∷ [])) ≡ counts entries ++ (not (among entries entry) ∷ [])
counts-snoc entries entry = counts-append entries (entry ∷ []) ∙ unfold counts_after in refl

-- an entry counts exactly when it is not among the earlier ones
pub counts_at : (before : List ℕ) (entry : ℕ) (after : List ℕ) → get_or (counts (before ++ entry ∷ after)) (length before) false ≡ not (among before entry)
counts_at before entry after =
    rw (counts-append before (entry ∷ after))
    (unfold counts_after in get_or_at (counts before) (not (among before entry)) _ false (length before) (length-counts before))

-- ---- a one-to-one map of the entries

module _ (φ : ℕ → ℕ) (one : (d e : ℕ) → φ d ≡ φ e → d ≡ e) where
  same_test : (d e : ℕ) → eqb (φ d) (φ e) ≡ eqb d e
  same_test d e = go (eqb d e) refl
    where
      go : (b : Bool) → eqb d e ≡ b → eqb (φ d) (φ e) ≡ b
      go true h = eq-eqb (φ d) (φ e) (ap φ (eqb-true d e h))
      go false h = ne_eqb (φ d) (φ e) (λ k. eqb-false d e h (one d e k))

  map-among : (ds : List ℕ) (e : ℕ) → among (map φ ds) (φ e) ≡ among ds e
  unfolding among
  map-among [] e = refl
  map-among (d ∷ ds) e = rw (same_test e d, map-among ds e)

  map-counts_after : (entries before : List ℕ) → counts_after (map φ before) (map φ entries) ≡ counts_after before entries
  unfolding counts_after
  map-counts_after [] before = refl
  map-counts_after (e ∷ entries) before =
      rw (map-among before e) (ap (λ t. not (among before e) ∷ t) (rw (← map-append φ before (e ∷ [])) (map-counts_after entries (before ++ (e ∷ [])))))

  pub counts-map : (entries : List ℕ) → counts (map φ entries) ≡ counts entries
  unfolding counts
  counts-map entries = map-counts_after entries []

-- adding a page is one: added twice it is gone
pub counts-shifted : (l : ℕ) (page : List ℕ) → Below (2 ^ (8 * l)) page → (entries : List ℕ) → counts (map (shifted_entry l page) entries) ≡ counts entries
counts-shifted l page b entries = counts-map (shifted_entry l page) (λ d e h. sym (back d) ∙ ap (shifted_entry l page) h ∙ back e) entries
  where
    same : (e : ℕ) → constraint l (vector l (shifted_entry l page e)) ≡ constraint l (vector l e)
    same e = ap (constraint l) (shifted-entry l page b e) ∙ shifted-constraint l page b (vector l e)

    back : (e : ℕ) → shifted_entry l page (shifted_entry l page e) ≡ e
    back e =
        unfold shifted_entry in ap (λ (c : ℕ). shifted_entry l page e ⊕ named page c) (same e) ∙ ⊕_cancel_r e (named page (constraint l (vector l e)))

-- ---- each entry is equal to one that counts

-- where an entry counts that is equal to this one, with some entries before all
abbrev Covered : List ℕ → List ℕ → ℕ → Type 0
Covered before entries entry = (arrival : ℕ) × (get_or (counts_after before entries) arrival false ≡ true) × (get_or entries arrival 0 ≡ entry)

module _ (entry : ℕ) where
  cover_head : (before : List ℕ) (e : ℕ) (entries : List ℕ) → among before entry ≡ false → entry ≡ e → Covered before (e ∷ entries) entry
  unfolding counts_after
  cover_head before e entries none p = (0, ap (λ (x : ℕ). not (among before x)) (sym p) ∙ rw none, sym p)

  cover_tail : (before : List ℕ) (e : ℕ) (entries : List ℕ) → Covered (before ++ (e ∷ [])) entries entry → Covered before (e ∷ entries) entry
  unfolding counts_after
  cover_tail before e entries c = (suc c.0, c.1, c.2)

  cover_after : (entries before : List ℕ) → among before entry ≡ false → Memᴰ entry entries → Covered before entries entry
  cover_after [] before none x'' = elim x'' [ ]
  cover_after (e ∷ entries) before none (Memᴰ.head p) = cover_head before e entries none p
  cover_after (e ∷ entries) before none (Memᴰ.tail m) = go (eqb entry e) refl (λ free. cover_after entries (before ++ (e ∷ [])) free m)
    where
      go : (b : Bool) → eqb entry e ≡ b → (among (before ++ (e ∷ [])) entry ≡ false → Covered (before ++ (e ∷ [])) entries entry) → Covered before (e ∷ entries) entry
      go true p ih = cover_head before e entries none (eqb-true entry e p)
      go false p ih = cover_tail before e entries (ih (among-append before (e ∷ []) entry ∙ unfold among in rw (none, p)))

pub counts_cover : {entry : ℕ} {entries : List ℕ} → Memᴰ entry entries → (arrival : ℕ) × (get_or (counts entries) arrival false ≡ true) × (get_or entries arrival 0 ≡ entry)
unfolding counts
counts_cover {entry = entry} {entries = entries} m = cover_after entry entries [] (unfold among in refl) m
