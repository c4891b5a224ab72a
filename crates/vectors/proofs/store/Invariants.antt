use Rattle.vectors.proofs.Stored.{Stored}
use Rattle.vectors.proofs.store.Given as goal

abbrev pub invariant-loop-i : goal.invariant-loop-i
invariant-loop-i l = Stored l.fn.v l.initial.into l.into l.i
