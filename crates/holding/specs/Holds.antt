-- What it is for a state to hold the rows that an order takes: what `absorb` keeps true, and what choosing and the store read from a state.
use Rattle.std.specs.Prelude.{ℕ, ◌*◌, ◌≤◌, ◌<◌, ◌≡◌, false, List, [], ◌∷◌, length, Some}
use Rattle.places.specs.Places.{most_rows}
use Rattle.rows.specs.Rows.{row_bytes, entries_of}
use Rattle.reading.specs.Reading.{rank, uses}
use Rattle.reading.specs.Orders.{among, taken}
use Rattle.reading.specs.Marks.{places_given}
use Rattle.basis.specs.Algorithm2.{algorithm2}
use Rattle.state.specs.Layout.{state_bytes, slots_in, uses_in, places_in, order_in}
use Rattle.absorb.specs.Absorbing.{tail_digits}
use Rattle.echelon.specs.Eliminating.{elimination}

-- The slots are those of Algorithm 2 for the rows taken; the uses, by kept place, and the kept places, by arrival, are the definition's.
pub record Holds (l : ℕ) (entries order state : List ℕ) : Type 0 where
  pub some : 1 ≤ l
  pub most : l ≤ 32
  pub room : state_bytes ≤ length state
  pub many : length entries ≤ most_rows
  pub few : length order ≤ most_rows
  pub slots : slots_in (row_bytes l) state ≡ (algorithm2 (tail_digits (row_bytes l)) (8 * row_bytes l) (taken l entries order)).slots
  pub uses : uses_in (rank (taken l entries order)) state ≡ uses (taken l entries order)
  pub places : places_in (length entries) state ≡ places_given l entries order

-- One arrival more: of an entry, not taken before, and the order has room for it.
pub record Offer (l : ℕ) (entries order : List ℕ) (arrival : ℕ) (state : List ℕ) : Type 0 where
  pub holds : Holds l entries order state
  pub more : length order < most_rows
  pub inside : arrival < length entries
  pub new : among order arrival ≡ false

-- No arrival is taken twice.
abbrev pub Distinct : List ℕ → Type 0
Distinct [] = Unit {0}
Distinct (arrival ∷ order) = (among order arrival ≡ false) × Distinct order

-- Elimination held an order, the first n arrivals in a state's: it gives the rank of the rows taken, and the state holds them, its order and its length
-- as they were.
pub record Held (l : ℕ) (list : List ℕ) (n : ℕ) (state order : List ℕ) : Type 0 where
  pub answer : (elimination l list n state).answer ≡ Some (rank (taken l (entries_of l list) order))
  pub holds : Holds l (entries_of l list) order (elimination l list n state).state
  pub stays : order_in n (elimination l list n state).state ≡ order
  pub long : length (elimination l list n state).state ≡ length state
