use Prim.Native.Nat.{◌*◌}
use lib.ListN.{length}
use Rattle.slots.proofs.Passing.{pass_from}
use Rattle.slots.proofs.Grouping.{Grouping}
use Rattle.slots.proofs.Reducer.group.Given as goal

abbrev pub invariant-loop-x : goal.invariant-loop-x
invariant-loop-x l = Grouping l.self.key (length l.initial.work) l.self.slots.now (pass_from l.self.key (length l.initial.work) l.self.slots.now l.initial.work (8 * l.g)) l.g l.work l.x

abbrev pub decreases-loop-x : goal.decreases-loop-x
decreases-loop-x l = l.x
