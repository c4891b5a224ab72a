-- What is written in the order of a state and in its filter of seeds: `put_arrival`, `forget` and `note` of the code.
use Rattle.std.specs.Prelude.{ℕ, ◌+◌, ◌*◌, Bool, true, cond, ◌&&◌, List, leb, ltb, length, replicate}
use Rattle.octets.specs.Octets.{bytes, lay}
use Rattle.places.specs.Places.{most_rows}
use Rattle.filter.specs.Filter.{filter_bytes, noted, note}
use Rattle.state.specs.Layout.{order_at, filter_at, state_bytes, filter_in}

-- ---- the order

-- Whether arrival m can stand at place i of the order in a state of so many bytes; and the state with it there.
unfoldable pub orders : ℕ → ℕ → ℕ → Bool
orders i m room = ltb i most_rows && (ltb m most_rows && leb state_bytes room)

unfoldable pub ordered_state : ℕ → ℕ → List ℕ → List ℕ
ordered_state i m state = cond (orders i m (length state)) (lay (order_at + 2 * i) (bytes 2 m) state) state

-- ---- the filter of seeds

-- A state in which no seed is noted.
unfoldable pub forgotten : List ℕ → List ℕ
forgotten state = cond (leb state_bytes (length state)) (lay filter_at (replicate filter_bytes 0) state) state

-- Whether a seed may have been noted in a state, and the state with it noted.
unfoldable pub noted_in : ℕ → List ℕ → Bool
noted_in seed state = cond (leb state_bytes (length state)) (noted seed (filter_in state)) true

unfoldable pub noted_state : ℕ → List ℕ → List ℕ
noted_state seed state = cond (leb state_bytes (length state)) (lay filter_at (note seed (filter_in state)) state) state
