-- `bits::low` meets its contract: a remainder by 2^n, and the number itself where n is no less than the width.
-- Assumes nothing.
use mathlib.Core.Path.{sym, ap}
use Prim.Native.Nat.{ℕ, ◌%◌}
use native.Mathlib.Nat.{mod-eq_of_lt, lt_of_lt_of_le}
use lib.Pow.{pow_mono}
use Rattle.octets.proofs.Digits.{one_shl}
use native.Mathlib.Omega.{arith}
use Rattle.bits.proofs.low.Goals as goal

pub returns-then-n-lt64 : goal.returns-then-n-lt64
returns-then-n-lt64 c = ap (λ (m : ℕ). c.args.x % m) (one_shl c.args.n 64 (omega arith))

pub returns-else-n-lt64 : goal.returns-else-n-lt64
returns-else-n-lt64 c = sym (mod-eq_of_lt (lt_of_lt_of_le c.ranges.x.fits (pow_mono c.if-n-lt64.false)))
