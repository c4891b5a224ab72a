-- `lists::count` meets its contract.
-- Assumes nothing.
use mathlib.Core.Path.{ap}
use Prim.Native.Nat.{ℕ, ◌/◌}
use Rattle.lists.proofs.count.Goals as goal

pub returns : goal.returns
returns c = ap (λ (size : ℕ). c.args.list / size) c.stride.ensures
