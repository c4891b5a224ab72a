-- A state with one row kept: `keep` of the code.
use Rattle.std.specs.Prelude.{ℕ, ◌+◌, ◌*◌, ◌^◌, ◌≤◌, ◌<◌, ◌≡◌, Bool, cond, ◌&&◌, List, eqb, leb, ltb, length}
use Rattle.space.specs.Space.{◌⊕◌}
use Rattle.octets.specs.Octets.{number, bytes, lay}
use Rattle.places.specs.Places.{most_rows}
use Rattle.slotting.specs.Slotting.{head_in}
unfoldable pub use Rattle.slotting.specs.Slotting.{head_of}
use Rattle.tally.specs.Tally.{most_kept}
use Rattle.state.specs.Layout.{vector_bytes, uses_at, places_at, heads_at, state_bytes}

-- Where the head of slot t begins.
unfoldable pub head_at : ℕ → ℕ
head_at t = heads_at + head_in t

-- Arrival m is given kept place r, which has no uses yet.
unfoldable pub placed_state : ℕ → ℕ → List ℕ → List ℕ
placed_state m r state = lay (uses_at + 2 * r) (bytes 2 0) (lay (places_at + 2 * m) (bytes 2 (r + 1)) state)

-- A row is kept: the vector, with the digit worth 2^r that names its kept place, at slot t, and its head.
unfoldable pub row_kept : ℕ → List ℕ → ℕ → ℕ → List ℕ → List ℕ
row_kept t vector m r state =
    lay (t * vector_bytes) (bytes vector_bytes (number vector ⊕ 2 ^ r)) (lay (head_at t) (head_of t vector) (placed_state m r state))

-- What keeping asks: a slot, an arrival and a kept place, a whole vector, and a state of so many bytes.
pub record KeepRoom (t m r vector room : ℕ) : Type 0 where
  pub slot : t < most_kept
  pub arrival : m < most_rows
  pub rank : r < most_kept
  pub wide : vector ≡ vector_bytes
  pub whole : state_bytes ≤ room

unfoldable pub keeps : ℕ → ℕ → ℕ → ℕ → ℕ → Bool
keeps t m r vector room = ltb t most_kept && (ltb m most_rows && (ltb r most_kept && (eqb vector vector_bytes && leb state_bytes room)))

-- Nothing is written where they do not fit.
unfoldable pub kept_state : ℕ → List ℕ → ℕ → ℕ → List ℕ → List ℕ
kept_state t vector m r state = cond (keeps t m r (length vector) (length state)) (row_kept t vector m r state) state
