use mathlib.Core.Path.{◌≡◌}
use mathlib.Core.List.{map}
use lib.ListN.{take}
use Rattle.octets.specs.Octets.{over}
use Rattle.doubles.specs.Doubles.{pairs_in}
use Rattle.places.specs.Places.{given_by}
use Rattle.roles.specs.Role.{role_of}
use Rattle.roles.proofs.put_roles.Given as goal

abbrev pub invariant-loop-arrival : goal.invariant-loop-arrival
invariant-loop-arrival l = l.roles ≡ over (take l.arrival (map (λ x. role_of l.least l.counts (given_by x)) (pairs_in l.places))) l.initial.roles
