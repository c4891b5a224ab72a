use Rattle.std.proofs.Common.{◌≡◌}
use Rattle.draw.specs.Draw.{start, steps}
use Rattle.draw.proofs.Generator.settled.Given as goal

-- as many steps as the counter says have been made from the start
abbrev pub invariant-loop : goal.invariant-loop
invariant-loop l = l.g ≡ steps l.counter (start l.seed)
