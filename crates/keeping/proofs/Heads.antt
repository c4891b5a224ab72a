-- Where the heads end that are written.
-- Assumes nothing.
use Prim.Native.Nat.{ℕ, ◌+◌, ◌≤◌, ◌<◌}
use native.Mathlib.Omega.{arith}
use Rattle.slotting.specs.Slotting.{head_in}
use Rattle.tally.specs.Tally.{most_kept}
use Rattle.state.specs.Layout.{heads_at, order_at}
use Rattle.state.proofs.Sizes.{sizes}
use Rattle.keeping.specs.Keeping.{head_at}

-- the heads of 320 slots end where the order begins
pub head_end : (t : ℕ) → t < most_kept → (heads_at ≤ head_at t) × (head_at t + 8 ≤ order_at)
unfolding head_at head_in
head_end t h = (omega arith, omega (arith, sizes))
