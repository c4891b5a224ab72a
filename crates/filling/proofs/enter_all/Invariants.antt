use Rattle.filling.proofs.Offers.{Offering}
use Rattle.filling.proofs.enter_all.Given as goal

abbrev pub invariant-loop-i : goal.invariant-loop-i
invariant-loop-i l = Offering l.l l.list l.roles l.initial.slots l.slots l.i
