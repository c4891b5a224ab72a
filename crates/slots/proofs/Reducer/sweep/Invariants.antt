use Rattle.slots.proofs.Sweeping.{Swept}
use Rattle.slots.proofs.Reducer.sweep.Given as goal

abbrev pub invariant-loop-g : goal.invariant-loop-g
invariant-loop-g l = Swept l.self.key l.self.slots.now l.initial.work l.work l.g
