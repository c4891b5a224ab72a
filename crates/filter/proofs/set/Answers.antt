-- `set` meets its contract: the bit is added to its byte.
-- Assumes nothing.
use native.Mathlib.Omega.{arith}
use mathlib.Core.Path.{ap}
use Prim.Native.Nat.{ℕ, ◌%◌}
use lib.Bits.{bit_or}
use lib.ListN.{set, get_or}
use Rattle.octets.proofs.Digits.{one_shl}
use Rattle.filter.specs.Filter.{filter_bytes, byte_of, with_set}
use Rattle.filter.proofs.set.Goals as goal

pub returns : goal.returns
unfolding filter_bytes byte_of with_set
returns c =
    let bit = c.args.bit in
    let filter = c.args.filter.now in
    ap (λ (b : ℕ). set filter (byte_of bit) (bit_or (get_or filter (byte_of bit) 0) b)) (one_shl (bit % 8) 8 (omega arith))
