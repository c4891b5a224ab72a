use Rattle.chosen.proofs.Weights.{Adding}
use Rattle.chosen.proofs.adding.Given as goal

abbrev pub invariant-loop-i : goal.invariant-loop-i
invariant-loop-i l = Adding l.n l.l l.list l.roles l.sum l.i
