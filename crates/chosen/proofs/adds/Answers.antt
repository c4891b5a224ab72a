-- `chosen::adds` meets its contract: the first word of a row is its constraint.
-- Assumes nothing.
use mathlib.Core.Path.{◌≡◌, sym, ap, ◌∙◌}
use Prim.Native.Nat.{◌-◌}
use lib.ListN.{length}
use Rattle.octets.specs.Octets.{number}
use Rattle.octets.proofs.Runs.{known_below}
use Rattle.rows.specs.Rows.{constraint}
use Rattle.rows.specs.Bytes.{stray}
use Rattle.strays.proofs.Straying.{constraint_word}
use Rattle.chosen.specs.Weight.{weight}
use Rattle.chosen.proofs.Choosing.{chosen-one, chosen-other}
use Rattle.chosen.proofs.adds.Goals as goal
use Rattle.chosen.proofs.adds.Goals.{After-strays}

pub returns-then-role-ne2 : goal.returns-then-role-ne2
unfolding weight
returns-then-role-ne2 c = let A = c.args in rw (chosen-other A.role (number A.row.now) c.if-role-ne2.true)

-- what the word says is so of the row
says : (c : After-strays) → stray c.args.n (constraint (length c.args.row.now - 8) (number c.args.row.now)) ≡ c.strays.result
says c =
    let word = constraint_word c.args.row.now c.requires (known_below c.args.row.now c.type_inv.row) in
    sym (c.strays.ensures ∙ ap (stray c.args.n) (c.word.ensures ∙ word))

pub returns-then-strays : goal.returns-then-strays
unfolding weight
returns-then-strays c =
    let A = c.args in
    rw (chosen-one A.role (number A.row.now) c.if-role-ne2.false, says (goal.at.returns-then-strays c).After-strays ∙ c.if-strays.true)

pub returns-else-strays : goal.returns-else-strays
unfolding weight
returns-else-strays c =
    let A = c.args in
    rw (chosen-one A.role (number A.row.now) c.if-role-ne2.false, says (goal.at.returns-else-strays c).After-strays ∙ c.if-strays.false)
