use Rattle.apart.proofs.Gathering.{Gathering}
use Rattle.apart.proofs.gather.Given as goal

abbrev pub invariant-loop-i : goal.invariant-loop-i
invariant-loop-i l = Gathering l.l l.list l.page l.initial.into l.into l.k l.i
