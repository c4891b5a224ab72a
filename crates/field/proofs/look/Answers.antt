-- `field::look` meets its contract: it makes the definition's tests in the definition's order, the third on the length that the field states.
-- Assumes nothing.
use Rattle.std.proofs.Common.{arith}
use Rattle.std.proofs.lemmas.Grind.{common_steps}
use Rattle.octets.proofs.Runs.{known_below}
use Rattle.field.specs.Expected.{field_of}
use Rattle.field.proofs.Parts.{number-part}
use Rattle.field.proofs.look.Goals as goal

pub returns-then-rest-size : goal.returns-then-rest-size
unfolding field_of
returns-then-rest-size c =
    let stated = number-part 1 2 8 c.args.rest.now (known_below c.args.rest.now c.type_inv.rest) (omega arith) in grind (arith, common_steps, c.get.ensures)

pub returns : goal.returns
unfolding field_of
returns c =
    let stated = number-part 1 2 8 c.args.rest.now (known_below c.args.rest.now c.type_inv.rest) (omega arith) in grind (arith, common_steps, c.get.ensures)
