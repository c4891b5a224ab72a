use lib.ListN.{length}
use Rattle.rows.proofs.Bits.{Adding, added}
use Rattle.sums.proofs.add_named.Given as goal

abbrev pub invariant-loop-bit : goal.invariant-loop-bit
invariant-loop-bit l = Adding (added l.initial.into) (length l.initial.into) l.page l.names l.into l.bit-iterator.rest
