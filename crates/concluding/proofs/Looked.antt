-- What is looked up at the kept places of arrivals is given by arrival number.
-- Assumes nothing.
use mathlib.Core.Path.{◌≡◌, sym, ap, ◌∙◌}
use Prim.Native.Nat.{ℕ, suc, ◌<◌}
use native.Mathlib.Omega.{arith}
use mathlib.Core.Bool.{Bool, true, false, cond}
use mathlib.Core.List.{List, [], ◌∷◌, map}
use lib.Dec.{eqb}
use lib.ListN.{length, get_or}
use Rattle.space.specs.Lists.{tabulate}
use Rattle.space.proofs.Lists.{tabulate_ext}
use Rattle.reading.specs.Reading.{rank}
use Rattle.reading.specs.Orders.{taken}
use Rattle.reading.specs.Marks.{value_of, by_arrival, kept_arrivals, places_given}
use Rattle.reading.proofs.KeptPlaces.{map-tabulate, length-kept_arrivals}

-- a value found through the number of its place
value_looked : (d x : ℕ) (look : ℕ → ℕ) (bs vs : List ℕ) (f : ℕ → ℕ) → length bs ≡ length vs → look 0 ≡ d → ((k : ℕ) → k < length vs → look (f k) ≡ get_or vs k 0)
    → look (value_of 0 bs (tabulate (length bs) f) x) ≡ value_of d bs vs x
unfolding value_of tabulate
value_looked d x look [] vs f e none at = none
value_looked d x look (b ∷ bs) [] f e none at = absurd (omega arith)
value_looked d x look (b ∷ bs) (v ∷ vs) f e none at = go (eqb x b) (value_looked d x look bs vs (λ k. f (suc k)) (omega arith) none (λ k h. at (suc k) (omega arith)))
  where
    go : (c : Bool) → look (value_of 0 bs (tabulate (length bs) (λ k. f (suc k))) x) ≡ value_of d bs vs x
        → look (cond c (f 0) (value_of 0 bs (tabulate (length bs) (λ k. f (suc k))) x)) ≡ cond c v (value_of d bs vs x)
    go true ih = at 0 (omega arith)
    go false ih = ih

pub looked_up : (l : ℕ) (entries order : List ℕ) (d : ℕ) (look : ℕ → ℕ) (vs : List ℕ) → length vs ≡ rank (taken l entries order) → look 0 ≡ d
    → ((k : ℕ) → k < length vs → look (suc k) ≡ get_or vs k 0)
    → map look (places_given l entries order) ≡ by_arrival d (length entries) (kept_arrivals l entries order) vs
unfolding places_given by_arrival
looked_up l entries order d look vs size none at =
    map-tabulate look (value_of 0 (kept_arrivals l entries order) (tabulate (rank (taken l entries order)) suc)) (length entries)
    ∙ tabulate_ext (length entries) _ _ (λ x h. ap (λ (m : ℕ). look (value_of 0 (kept_arrivals l entries order) (tabulate m suc) x)) (sym kept-many)
    ∙ value_looked d x look (kept_arrivals l entries order) vs suc (kept-many ∙ sym size) none at)
  where
    kept-many : length (kept_arrivals l entries order) ≡ rank (taken l entries order)
    kept-many = length-kept_arrivals l entries order
