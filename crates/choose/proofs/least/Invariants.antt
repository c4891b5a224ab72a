use Prim.Native.Nat.{◌+◌, ◌≤◌}
use Rattle.doubles.specs.Doubles.{pairs_in}
use Rattle.choose.specs.Pick.{none_picked, least as fewest}
use Rattle.choose.proofs.least.Given as goal

abbrev pub invariant-loop-width : goal.invariant-loop-width
invariant-loop-width l = (l.low ≤ fewest l.n (pairs_in l.counts)) × (fewest l.n (pairs_in l.counts) ≤ l.low + l.width) × (fewest l.n (pairs_in l.counts) ≤ none_picked) × (l.width ≤ none_picked)

abbrev pub decreases-loop-width : goal.decreases-loop-width
decreases-loop-width l = l.width
