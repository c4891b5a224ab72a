use Rattle.repeats.proofs.Behind.{Behind}
use Rattle.repeats.proofs.is_among.Given as goal

abbrev pub invariant-loop-i : goal.invariant-loop-i
invariant-loop-i l = Behind l.entry l.list l.m l.i
