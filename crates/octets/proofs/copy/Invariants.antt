use lib.ListN.{length, take}
use Rattle.octets.proofs.Fill.{Filling}
use Rattle.octets.proofs.copy.Given as goal

abbrev pub invariant-loop-i : goal.invariant-loop-i
invariant-loop-i l = Filling (take (length l.initial.into) l.from) l.initial.into l.into l.i-end l.i
