-- What fits `clear`, and the state afterwards either way: by the test that the code makes.
-- Assumes nothing.
use mathlib.Core.Path.{◌≡◌}
use mathlib.Core.List.{List}
use Prim.Native.Nat.{ℕ, ◌≤◌}
use lib.ListN.{length, replicate}
use borrow.Author.Tests.{le-leb}
use Rattle.octets.specs.Octets.{over}
use Rattle.state.specs.Layout.{order_at, state_bytes}
use Rattle.state.specs.Written.{emptied}

module _ (state : List ℕ) where
  pub emptied_is : state_bytes ≤ length state → emptied state ≡ over (replicate order_at 0) state
  unfolding emptied
  emptied_is h = rw (le-leb state_bytes (length state) h)
