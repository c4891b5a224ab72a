use Rattle.repeats.proofs.Alike.{Alike}
use Rattle.repeats.proofs.equal.Given as goal

abbrev pub invariant-loop-i : goal.invariant-loop-i
invariant-loop-i l = Alike l.a l.b l.i
