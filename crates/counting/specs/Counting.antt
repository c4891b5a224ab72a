-- A state in which the uses that a row makes are counted: `count` of the code.
use Rattle.std.specs.Prelude.{ℕ, ◌+◌, ◌*◌, ◌≤◌, ◌<◌, ◌≡◌, Bool, cond, ◌&&◌, List, eqb, leb, ltb, length}
use Rattle.octets.specs.Octets.{number, bytes, flat, lay}
use Rattle.places.specs.Places.{most_rows}
use Rattle.reading.specs.Raised.{raised}
use Rattle.basis.specs.Algorithm2.{digits}
use Rattle.tally.specs.Tally.{most_kept, tail_bytes}
use Rattle.state.specs.Layout.{uses_at, places_at, state_bytes, uses_in}

-- One use more for each of the r kept places that the digits of the tail's number name. Uses count modulo 65,536.
unfoldable pub row_counted : ℕ → ℕ → ℕ → List ℕ → List ℕ
row_counted tail m r state = lay (places_at + 2 * m) (bytes 2 0) (lay uses_at (flat 2 (raised (digits r tail) (uses_in r state))) state)

-- What counting asks: a whole tail, an arrival and no more kept places than there can be, and a state of so many bytes.
pub record CountRoom (tail m r room : ℕ) : Type 0 where
  pub wide : tail ≡ tail_bytes
  pub arrival : m < most_rows
  pub rank : r ≤ most_kept
  pub whole : state_bytes ≤ room

unfoldable pub tallies : ℕ → ℕ → ℕ → ℕ → Bool
tallies tail m r room = eqb tail tail_bytes && (ltb m most_rows && (leb r most_kept && leb state_bytes room))

-- Nothing is written where they do not fit.
unfoldable pub counted_state : List ℕ → ℕ → ℕ → List ℕ → List ℕ
counted_state tail m r state = cond (tallies (length tail) m r (length state)) (row_counted (number tail) m r state) state
