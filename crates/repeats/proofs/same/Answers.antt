-- `same` meets its contract: entries that differ in their first four bytes differ, and the others are compared.
-- Assumes nothing.
use mathlib.Core.Path.{sym, ◌∙◌}
use borrow.Author.Tests.{ne_eqb}
use Rattle.octets.proofs.Runs.{known_below}
use Rattle.repeats.proofs.Alike.{unequal_four}
use Rattle.repeats.proofs.same.Goals as goal

pub returns-else-four : goal.returns-else-four
returns-else-four c =
    ne_eqb c.four.result c.four-2.result c.if-four.false ∙ unequal_four c.args.a.now c.args.b.now c.requires.as_long (known_below c.args.a.now c.type_inv.a)
    (known_below c.args.b.now c.type_inv.b) (λ e. c.if-four.false (c.four.ensures ∙ e ∙ sym c.four-2.ensures))
