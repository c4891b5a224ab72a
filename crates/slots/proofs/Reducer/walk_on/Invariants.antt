use Prim.Native.Nat.{◌*◌}
use Rattle.vectors.specs.Vectors.{bytes_of}
use Rattle.slots.proofs.Passing.{pass_from}
use Rattle.slots.proofs.Grouping.{Grouping}
use Rattle.slots.proofs.Reducer.walk_on.Given as goal

abbrev pub invariant-loop-x : goal.invariant-loop-x
invariant-loop-x l = Grouping l.self.key 80 l.self.slots.now (pass_from l.self.key 80 l.self.slots.now (bytes_of l.initial.v) (8 * l.g)) l.g (bytes_of l.v) l.x

abbrev pub decreases-loop-x : goal.decreases-loop-x
decreases-loop-x l = l.x
