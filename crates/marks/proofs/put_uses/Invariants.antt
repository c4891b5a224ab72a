use Rattle.places.specs.Places.{given_by}
use Rattle.marks.specs.Mark.{uses_of}
use mathlib.Core.Path.{◌≡◌}
use mathlib.Core.List.{map}
use lib.ListN.{take}
use Rattle.doubles.specs.Doubles.{pairs_in}
use Rattle.marks.proofs.put_uses.Given as goal

abbrev pub invariant-loop-arrival : goal.invariant-loop-arrival
invariant-loop-arrival g l = l.uses ≡ g.U.Uses.written (take l.arrival (map (λ x. uses_of l.counts (given_by x)) (pairs_in l.places))) l.initial.uses
