-- `filling::offer` meets its contract: by the role, the row goes in or is passed over.
-- Assumes nothing.
use mathlib.Core.Path.{ap₂, ◌∙◌}
use borrow.Author.Tests.{ne_eqb}
use Rattle.octets.proofs.Runs.{known_below}
use Rattle.filling.specs.Fill.{leaves}
use Rattle.filling.proofs.Offers.{offer_in, offer_by}
use Rattle.filling.proofs.offer.Goals as goal

pub returns-else-role-ne2 : goal.returns-else-role-ne2
returns-else-role-ne2 c =
    let e = c.enter in
    ap₂ leaves e.ensures.slots e.ensures.answer
    ∙ offer_in c.args.slots.now c.args.row.now c.args.role c.requires (known_below c.args.row.now c.type_inv.row) c.if-role-ne2.false

pub returns-then-role-ne2 : goal.returns-then-role-ne2
returns-then-role-ne2 c = let A = c.args in rw (ne_eqb A.role 2 c.if-role-ne2.true) (offer_by A.slots.now A.row.now A.role c.if-role-ne2.true)
