-- What is written in a state where it is made empty: `clear` of the code.
use Rattle.std.specs.Prelude.{ℕ, cond, List, leb, length, replicate}
use Rattle.octets.specs.Octets.{over}
use Rattle.state.specs.Layout.{order_at, state_bytes}

-- A state with no rows; the order and all bytes behind it stay.
unfoldable pub emptied : List ℕ → List ℕ
emptied state = cond (leb state_bytes (length state)) (over (replicate order_at 0) state) state
