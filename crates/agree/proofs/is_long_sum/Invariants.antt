use lib.ListN.{length}
use Rattle.agree.specs.Quads.{quad_of}
use Rattle.rows.proofs.Bits.{Adding, added}
use Rattle.agree.proofs.is_long_sum.Given as goal

abbrev pub invariant-loop-bit : goal.invariant-loop-bit
invariant-loop-bit l = Adding (λ x. quad_of (added l.payload x)) (length l.payload) l.page l.names l.left l.bit-iterator.rest
