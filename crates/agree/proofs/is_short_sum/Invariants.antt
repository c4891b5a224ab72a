use lib.ListN.{length}
use Rattle.space.specs.Space.{◌⊕◌}
use Rattle.octets.specs.Octets.{number}
use Rattle.rows.proofs.Bits.{Adding}
use Rattle.agree.proofs.Shorts.{front}
use Rattle.agree.proofs.is_short_sum.Given as goal

abbrev pub invariant-loop-bit : goal.invariant-loop-bit
invariant-loop-bit l = Adding (λ x. number l.payload ⊕ x) (length l.payload) l.page l.names (front (length l.payload) l.left) l.bit-iterator.rest
