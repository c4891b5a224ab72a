use Rattle.octets.specs.Octets.{xor_bytes}
use Rattle.octets.proofs.Fill.{Filling}
use Rattle.octets.proofs.add.Given as goal

abbrev pub invariant-loop-i : goal.invariant-loop-i
invariant-loop-i l = Filling (xor_bytes l.initial.into l.from) l.initial.into l.into l.i-end l.i
