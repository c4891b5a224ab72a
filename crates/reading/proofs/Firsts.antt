-- What an order takes goes by the rows at its arrivals: where it has no later arrival it takes the same of the first entries alone, and where it takes the
-- same of no more entries, these are given the same kept places.
-- Assumes nothing.
use mathlib.Core.Path.{◌≡◌, refl, sym, ap₂}
use Prim.Native.Nat.{ℕ, ◌≤◌}
use mathlib.Core.List.{List, [], ◌∷◌}
use lib.ListN.{length, take}
use lib.Seq.{get_or-take}
use Rattle.space.specs.Lists.{Below}
use Rattle.space.proofs.Lists.{take-tabulate}
use Rattle.rows.specs.Rows.{vector}
use Rattle.reading.specs.Orders.{taken}
use Rattle.reading.specs.Marks.{by_arrival, kept_arrivals, places_given}

pub taken-first : (l k : ℕ) (entries order : List ℕ) → Below k order → taken l (take k entries) order ≡ taken l entries order
unfolding taken
taken-first l k entries [] b = refl
taken-first l k entries (a ∷ order) b = ap₂ (λ (e : ℕ) (t : List ℕ). vector l e ∷ t) (get_or-take k entries a 0 b.0) (taken-first l k entries order b.1)

pub places-first : (l : ℕ) (ds es order : List ℕ) → length ds ≤ length es → taken l ds order ≡ taken l es order
    → places_given l ds order ≡ take (length ds) (places_given l es order)
unfolding places_given kept_arrivals by_arrival
places-first l ds es order h e = rw e (sym (take-tabulate (length ds) (length es) _ h))
