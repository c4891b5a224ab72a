-- `behind` meets its contract: a remainder by 2^b keeps the digits below.
-- Assumes nothing.
use mathlib.Core.Path.{ap}
use Prim.Native.Nat.{ℕ, ◌%◌}
use lib.Bits.{bit_xor}
use lib.Pow.{pow_pos}
use Rattle.octets.proofs.Digits.{one_shl}
use Rattle.slots.proofs.behind.Goals as goal

pub overflow_shl-result : goal.overflow_shl-result
overflow_shl-result c = c.requires

pub nonzero_rem-result : goal.nonzero_rem-result
nonzero_rem-result c = rw (one_shl c.args.b 64 c.requires) (pow_pos c.args.b)

pub returns : goal.returns
returns c = ap (λ (m : ℕ). bit_xor c.args.x c.args.y % m) (one_shl c.args.b 64 c.requires)
