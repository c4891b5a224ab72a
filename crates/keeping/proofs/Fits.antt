-- What fits `keep`, and the state afterwards where it does.
-- Assumes nothing.
use mathlib.Core.Path.{◌≡◌}
use mathlib.Core.List.{List}
use Prim.Native.Nat.{ℕ}
use lib.ListN.{length}
use borrow.Author.Tests.{le-leb, lt-ltb, eq-eqb}
use Rattle.tally.specs.Tally.{most_kept}
use Rattle.state.specs.Layout.{vector_bytes, state_bytes}
use Rattle.keeping.specs.Keeping.{KeepRoom, keeps, row_kept, kept_state}

module _ (t : ℕ) (vector : List ℕ) (m r : ℕ) (state : List ℕ) where
  pub kept_is : KeepRoom t m r (length vector) (length state) → kept_state t vector m r state ≡ row_kept t vector m r state
  unfolding kept_state keeps
  kept_is K = rw (lt-ltb t most_kept K.slot, lt-ltb m 512 K.arrival, lt-ltb r most_kept K.rank, eq-eqb (length vector) vector_bytes K.wide, le-leb state_bytes (length state) K.whole)
