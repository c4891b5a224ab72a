-- What fits `count`, and the state afterwards where it does.
-- Assumes nothing.
use mathlib.Core.Path.{◌≡◌}
use mathlib.Core.List.{List}
use Prim.Native.Nat.{ℕ}
use lib.ListN.{length}
use borrow.Author.Tests.{le-leb, lt-ltb, eq-eqb}
use Rattle.octets.specs.Octets.{number}
use Rattle.tally.specs.Tally.{most_kept, tail_bytes}
use Rattle.state.specs.Layout.{state_bytes}
use Rattle.counting.specs.Counting.{CountRoom, tallies, row_counted, counted_state}

module _ (tail : List ℕ) (m r : ℕ) (state : List ℕ) where
  pub counted_is : CountRoom (length tail) m r (length state) → counted_state tail m r state ≡ row_counted (number tail) m r state
  unfolding counted_state tallies
  counted_is K = rw (eq-eqb (length tail) tail_bytes K.wide, lt-ltb m 512 K.arrival, le-leb r most_kept K.rank, le-leb state_bytes (length state) K.whole)
