use Rattle.order.proofs.Writing.{Writing}
use Rattle.order.proofs.take_each.Given as goal

abbrev pub invariant-loop-i : goal.invariant-loop-i
invariant-loop-i l = Writing l.l l.list l.initial.state l.state l.m l.i l.taken
