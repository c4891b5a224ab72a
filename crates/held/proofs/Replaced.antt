-- Two lists in which the same arrivals count: where every row counts in both, and where one has, for an entry wherever it stands, another that stands nowhere. Of
-- entries that all count, then, one is replaced.
-- Assumes nothing.
use mathlib.Core.Path.{◌≡◌, refl, sym, ap, ap₂, ◌∙◌}
use Prim.Native.Nat.{ℕ}
use native.Mathlib.Omega.{arith}
use mathlib.Core.Bool.{Bool, true, false, cond, not, ◌||◌, true≢false, false≢true}
use mathlib.Core.List.{List, [], ◌∷◌, ◌++◌, map}
use lib.Dec.{eqb}
use lib.ListN.{length}
use borrow.Author.Tests.{eqb-true, eq-eqb, not-true}
use Rattle.space.specs.Lists.{All}
use Rattle.space.proofs.Lists.{map-append}
use Rattle.reading.specs.Orders.{among, counts_after, counts}
use Rattle.reading.proofs.Among.{among-append}
use Rattle.reading.proofs.Counted.{length-counts, counts-append, counts-map}
use Rattle.held.specs.Held.{replaced}

-- ---- where no entry repeats another, each stands once

later-apart : (d : ℕ) (entries before : List ℕ) → among before d ≡ true → All (λ c. c) (counts_after before entries) → among entries d ≡ false
unfolding among counts_after
later-apart d [] before h a = refl
later-apart d (x ∷ entries) before h a = go (eqb d x) refl (later-apart d entries (before ++ (x ∷ [])) (among-append before (x ∷ []) d ∙ rw h) a.1)
  where
    go : (b : Bool) → eqb d x ≡ b → among entries d ≡ false → (b || among entries d) ≡ false
    go true p ih = absurd (true≢false (sym h ∙ ap (among before) (eqb-true d x p) ∙ not-true (among before x) a.0))
    go false p ih = ih

all_split : (bs cs : List Bool) → All (λ c. c) (bs ++ cs) → All (λ c. c) cs
all_split [] cs a = a
all_split (b ∷ bs) cs a = all_split bs cs a.1

stands-once : (before : List ℕ) (d : ℕ) (after : List ℕ) → All (λ c. c) (counts (before ++ d ∷ after)) → (among before d ≡ false) × (among after d ≡ false)
stands-once before d after a = (not-true (among before d) rest.0, later-apart d after (before ++ (d ∷ [])) (among-append before (d ∷ []) d ∙ last (among before d)) rest.1)
  where
    rest : All (λ c. c) (not (among before d) ∷ counts_after (before ++ (d ∷ [])) after)
    rest = unfold counts_after in all_split (counts before) _ (rw (counts-append before (d ∷ after)) at a)

    last : (b : Bool) → (b || among (d ∷ []) d) ≡ true
    last true = refl
    last false = unfold among in rw (eq-eqb d d refl)

-- ---- every row counts

all_same : (bs cs : List Bool) → All (λ b. b) bs → All (λ b. b) cs → length bs ≡ length cs → bs ≡ cs
all_same [] [] h k e = refl
all_same [] (c ∷ cs) h k e = absurd (omega arith)
all_same (b ∷ bs) [] h k e = absurd (omega arith)
all_same (true ∷ bs) (true ∷ cs) h k e = ap (λ t. true ∷ t) (all_same bs cs h.1 k.1 (omega arith))
all_same (false ∷ bs) (c ∷ cs) h k e = absurd (false≢true h.0)
all_same (true ∷ bs) (false ∷ cs) h k e = absurd (false≢true k.0)

pub once-counts : (ds es : List ℕ) → All (λ c. c) (counts ds) → All (λ c. c) (counts es) → length ds ≡ length es → counts ds ≡ counts es
once-counts ds es h k e = all_same (counts ds) (counts es) h k (length-counts ds ∙ e ∙ sym (length-counts es))

-- ---- an entry replaced

module _ (d e : ℕ) where
  -- the two exchanged: a one-to-one map
  exchanged : ℕ → ℕ
  exchanged x = cond (eqb x d) e (cond (eqb x e) d x)

  back : (x : ℕ) → exchanged (exchanged x) ≡ x
  unfolding exchanged
  back x = go (eqb x d) refl (eqb x e) refl
    where
      of_e : (b : Bool) → eqb e d ≡ b → cond b e (cond (eqb e e) d e) ≡ d
      of_e true p = eqb-true e d p
      of_e false p = rw (eq-eqb e e refl)

      go : (b : Bool) → eqb x d ≡ b → (c : Bool) → eqb x e ≡ c
          → cond (eqb (cond b e (cond c d x)) d) e (cond (eqb (cond b e (cond c d x)) e) d (cond b e (cond c d x))) ≡ x
      go true p c q = of_e (eqb e d) refl ∙ sym (eqb-true x d p)
      go false p true q = rw (eq-eqb d d refl) (sym (eqb-true x e q))
      go false p false q = rw (p, q)

  as_exchanged : (entries : List ℕ) → among entries e ≡ false → map (replaced d e) entries ≡ map exchanged entries
  unfolding among replaced exchanged
  as_exchanged [] h = refl
  as_exchanged (x ∷ entries) h = go (eqb e x) refl h (as_exchanged entries)
    where
      other : (c : Bool) → eqb x e ≡ c → eqb e x ≡ false → cond (eqb x d) e x ≡ cond (eqb x d) e (cond c d x)
      other true q p = absurd (true≢false (sym (eq-eqb e x (sym (eqb-true x e q))) ∙ p))
      other false q p = refl

      go : (c : Bool) → eqb e x ≡ c → (c || among entries e) ≡ false → (among entries e ≡ false → map (replaced d e) entries ≡ map exchanged entries)
          → map (replaced d e) (x ∷ entries) ≡ map exchanged (x ∷ entries)
      go true p h ih = absurd (true≢false h)
      go false p h ih = ap₂ (λ y t. y ∷ t) (unfold replaced exchanged in other (eqb x e) refl p) (ih h)

  unchanged : (entries : List ℕ) → among entries d ≡ false → map (replaced d e) entries ≡ entries
  unfolding among replaced
  unchanged [] h = refl
  unchanged (x ∷ entries) h = go (eqb d x) refl (eqb x d) refl h (unchanged entries)
    where
      go : (b : Bool) → eqb d x ≡ b → (c : Bool) → eqb x d ≡ c → (b || among entries d) ≡ false → (among entries d ≡ false → map (replaced d e) entries ≡ entries)
          → cond c e x ∷ map (replaced d e) entries ≡ x ∷ entries
      go true p c q h ih = absurd (true≢false h)
      go false p true q h ih = absurd (true≢false (sym (eq-eqb d x (sym (eqb-true x d q))) ∙ p))
      go false p false q h ih = ap (λ t. x ∷ t) (ih h)

  -- of entries that all count, one is replaced
  pub replaced-once : (before after : List ℕ) → All (λ c. c) (counts (before ++ d ∷ after)) → map (replaced d e) (before ++ d ∷ after) ≡ before ++ e ∷ after
  replaced-once before after a =
      let s = stands-once before d after a in
      map-append (replaced d e) before (d ∷ after) ∙ ap₂ (λ xs ys. xs ++ ys) (unchanged before s.0) (ap₂ (λ x ys. x ∷ ys) own (unchanged after s.1))
    where
      own : replaced d e d ≡ e
      own = unfold replaced in rw (eq-eqb d d refl)

  -- one that stands nowhere, put for another, changes no mark
  pub replaced-counts : (entries : List ℕ) → among entries e ≡ false → counts (map (replaced d e) entries) ≡ counts entries
  replaced-counts entries new = ap counts (as_exchanged entries new) ∙ counts-map exchanged (λ x y h. sym (back x) ∙ ap exchanged h ∙ back y) entries
