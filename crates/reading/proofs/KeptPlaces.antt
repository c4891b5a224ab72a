-- One arrival more is taken: what it adds to the rows, to the kept arrivals and to the kept places. And the marks are written from the kept
-- places: the mark of an arrival is looked up at its kept place.
-- Assumes nothing.
use mathlib.Core.Path.{◌≡◌, refl, sym, ap, ap₂, ◌∙◌}
use Prim.Native.Nat.{ℕ, zero, suc, ◌-◌}
use native.Mathlib.Omega.{arith}
use mathlib.Core.Bool.{Bool, true, false, cond, not, ◌||◌, true≢false}
use mathlib.Core.List.{List, [], ◌∷◌, ◌++◌, map, append-nil}
use lib.Dec.{eqb, eqb-zero-suc, eqb-suc-zero, eqb-suc-suc}
use lib.ListN.{length, get_or, set, length-map}
use borrow.Author.Tests.{eqb-true, eq-eqb}
use Rattle.space.specs.Lists.{select, tabulate}
use Rattle.space.specs.Space.{spans}
use Rattle.space.proofs.Lists.{map-append, select-append, tabulate_ext, tabulate-snoc, length-tabulate, length-select}
use Rattle.rows.specs.Rows.{vector}
use Rattle.reading.specs.Reading.{kept, kept_rows, rank}
use Rattle.reading.specs.Orders.{among, taken}
use Rattle.reading.specs.Marks.{value_of, by_arrival, kept_arrivals, places_given}
use Rattle.reading.proofs.Kept.{length-kept}
use Rattle.reading.proofs.OneMore.{kept-snoc}
use Rattle.reading.proofs.Ranks.{rank-other, rank-kept, rank-marked}

-- ---- one arrival more is taken

module _ (l : ℕ) (entries order : List ℕ) (arrival : ℕ) where
  pub taken-snoc : taken l entries (order ++ (arrival ∷ [])) ≡ taken l entries order ++ (vector l (get_or entries arrival 0) ∷ [])
  unfolding taken
  taken-snoc = map-append (λ a. vector l (get_or entries a 0)) order (arrival ∷ [])

  pub kept_arrivals-snoc : kept_arrivals l entries (order ++ (arrival ∷ []))
      ≡ kept_arrivals l entries order ++ cond (spans (kept_rows (taken l entries order)) (vector l (get_or entries arrival 0))) [] (arrival ∷ [])
  unfolding kept_arrivals
  kept_arrivals-snoc =
      rw (taken-snoc, kept-snoc (taken l entries order) (vector l (get_or entries arrival 0)))
      (select-append (kept (taken l entries order)) _ order (arrival ∷ []) (length-kept (taken l entries order) ∙ unfold taken in length-map order _)
      ∙ ap (λ t. select (kept (taken l entries order)) order ++ t) (last (spans (kept_rows (taken l entries order)) (vector l (get_or entries arrival 0)))))
    where
      last : (b : Bool) → select (not b ∷ []) (arrival ∷ []) ≡ cond b [] (arrival ∷ [])
      last true = unfold select in refl
      last false = unfold select in refl

  -- a row that is a sum of kept ones: no kept place changes
  pub places-other : spans (kept_rows (taken l entries order)) (vector l (get_or entries arrival 0)) ≡ true
      → places_given l entries (order ++ (arrival ∷ [])) ≡ places_given l entries order
  unfolding places_given
  places-other e =
      rw (kept_arrivals-snoc, e, append-nil (kept_arrivals l entries order), taken-snoc, rank-other (taken l entries order) (vector l (get_or entries arrival 0)) e)

-- ---- one value more at the end

module _ (d a v : ℕ) where
  value-snoc : (bs vs : List ℕ) → length bs ≡ length vs → among bs a ≡ false → (x : ℕ) → value_of d (bs ++ (a ∷ [])) (vs ++ (v ∷ [])) x ≡ cond (eqb x a) v (value_of d bs vs x)
  unfolding value_of among
  value-snoc [] [] e h x = refl
  value-snoc [] (w ∷ vs) e h x = absurd (omega arith)
  value-snoc (b ∷ bs) [] e h x = absurd (omega arith)
  value-snoc (b ∷ bs) (w ∷ vs) e h x = go (eqb x b) refl (eqb x a) refl (eqb a b) refl h (value-snoc bs vs (omega arith))
    where
      go : (p : Bool) → eqb x b ≡ p → (q : Bool) → eqb x a ≡ q → (r : Bool) → eqb a b ≡ r → (r || among bs a) ≡ false
          → (among bs a ≡ false → (x : ℕ) → value_of d (bs ++ (a ∷ [])) (vs ++ (v ∷ [])) x ≡ cond (eqb x a) v (value_of d bs vs x))
          → cond p w (value_of d (bs ++ (a ∷ [])) (vs ++ (v ∷ [])) x) ≡ cond q v (cond p w (value_of d bs vs x))
      go p i q j true k h ih = absurd (true≢false h)
      go true i true j false k h ih = absurd (true≢false (sym (eq-eqb a b (sym (eqb-true x a j) ∙ eqb-true x b i)) ∙ k))
      go true i false j false k h ih = refl
      go false i q j false k h ih = ih h x ∙ rw j

  set-tabulate : (m : ℕ) (f : ℕ → ℕ) (i : ℕ) → set (tabulate m f) i v ≡ tabulate m (λ x. cond (eqb x i) v (f x))
  unfolding tabulate
  set-tabulate zero f i = refl
  set-tabulate (suc m) f zero = ap (λ t. v ∷ t) (tabulate_ext m _ _ (λ k h. rw (eqb-suc-zero k)))
  set-tabulate (suc m) f (suc i) =
      ap₂ (λ x t. x ∷ t) (rw (eqb-zero-suc i)) (set-tabulate m (λ k. f (suc k)) i ∙ tabulate_ext m _ _ (λ k h. rw (eqb-suc-suc k i)))

  by_arrival-snoc : (m : ℕ) (bs vs : List ℕ) → length bs ≡ length vs → among bs a ≡ false → by_arrival d m (bs ++ (a ∷ [])) (vs ++ (v ∷ [])) ≡ set (by_arrival d m bs vs) a v
  unfolding by_arrival
  by_arrival-snoc m bs vs e h = tabulate_ext m _ _ (λ x k. value-snoc bs vs e h x) ∙ sym (set-tabulate m (value_of d bs vs) a)

-- ---- the kept places

pub among-select : (ks : List Bool) (bs : List ℕ) (a : ℕ) → among bs a ≡ false → among (select ks bs) a ≡ false
unfolding among select
among-select [] bs a h = refl
among-select (k ∷ ks) [] a h = refl
among-select (k ∷ ks) (b ∷ bs) a h = go k (eqb a b) refl h (among-select ks bs a)
  where
    go : (k c : Bool) → eqb a b ≡ c → (c || among bs a) ≡ false → (among bs a ≡ false → among (select ks bs) a ≡ false) → among (select (k ∷ ks) (b ∷ bs)) a ≡ false
    go k true e h ih = absurd (true≢false h)
    go true false e h ih = rw e (ih h)
    go false false e h ih = ih h

-- a value is found through the number of its place
value-through : (d x : ℕ) (bs vs : List ℕ) (f look : ℕ → ℕ) → length bs ≡ length vs → look 0 ≡ d → ((k : ℕ) → look (f k) ≡ get_or vs k d)
    → value_of d bs vs x ≡ look (value_of 0 bs (tabulate (length bs) f) x)
unfolding value_of tabulate
value-through d x [] vs f look e none at = sym none
value-through d x (b ∷ bs) [] f look e none at = absurd (omega arith)
value-through d x (b ∷ bs) (v ∷ vs) f look e none at = go (eqb x b) (value-through d x bs vs (λ k. f (suc k)) look (omega arith) none (λ k. at (suc k)))
  where
    go : (c : Bool) → value_of d bs vs x ≡ look (value_of 0 bs (tabulate (length bs) (λ k. f (suc k))) x)
        → cond c v (value_of d bs vs x) ≡ look (cond c (f 0) (value_of 0 bs (tabulate (length bs) (λ k. f (suc k))) x))
    go true ih = sym (at 0)
    go false ih = ih

pub map-tabulate : (g f : ℕ → ℕ) (m : ℕ) → map g (tabulate m f) ≡ tabulate m (λ k. g (f k))
unfolding tabulate
map-tabulate g f zero = refl
map-tabulate g f (suc m) = ap (λ t. g (f 0) ∷ t) (map-tabulate g (λ k. f (suc k)) m)

module _ (l : ℕ) (entries order : List ℕ) where
  pub length-kept_arrivals : length (kept_arrivals l entries order) ≡ rank (taken l entries order)
  unfolding kept_arrivals
  length-kept_arrivals =
      length-select (kept (taken l entries order)) order (length-kept (taken l entries order) ∙ unfold taken in length-map order _) ∙ sym (rank-marked (taken l entries order))

  pub length-places_given : length (places_given l entries order) ≡ length entries
  unfolding places_given by_arrival
  length-places_given = length-tabulate (length entries) _

  -- a row that is kept: its arrival gets the next kept place
  pub places-kept : (arrival : ℕ) → among order arrival ≡ false → spans (kept_rows (taken l entries order)) (vector l (get_or entries arrival 0)) ≡ false
      → places_given l entries (order ++ (arrival ∷ [])) ≡ set (places_given l entries order) arrival (suc (rank (taken l entries order)))
  unfolding places_given
  places-kept a new e =
      rw (kept_arrivals-snoc l entries order a, e, taken-snoc l entries order a, rank-kept (taken l entries order) (vector l (get_or entries a 0)) e, tabulate-snoc (rank (taken l entries order)) suc)
      (by_arrival-snoc 0 a (suc (rank (taken l entries order))) (length entries) (kept_arrivals l entries order) (tabulate (rank (taken l entries order)) suc)
      (length-kept_arrivals ∙ sym (length-tabulate (rank (taken l entries order)) suc)) (unfold kept_arrivals in among-select (kept (taken l entries order)) order a new))

  -- the mark of an arrival is looked up at its kept place
  pub marks_by_places : (d : ℕ) (vs : List ℕ) → length vs ≡ rank (taken l entries order)
      → by_arrival d (length entries) (kept_arrivals l entries order) vs ≡ map (λ p. cond (eqb p 0) d (get_or vs (p - 1) d)) (places_given l entries order)
  unfolding places_given by_arrival
  marks_by_places d vs size =
      tabulate_ext (length entries) _ _ (λ x h. value-through d x (kept_arrivals l entries order) vs suc look (length-kept_arrivals ∙ sym size) refl at)
      ∙ rw length-kept_arrivals (sym (map-tabulate look (value_of 0 (kept_arrivals l entries order) (tabulate (rank (taken l entries order)) suc)) (length entries)))
    where
      look : ℕ → ℕ
      look p = cond (eqb p 0) d (get_or vs (p - 1) d)

      at : (k : ℕ) → look (suc k) ≡ get_or vs k d
      at k = rw (eqb-suc-zero k) (ap (λ (j : ℕ). get_or vs j d) (omega arith))
