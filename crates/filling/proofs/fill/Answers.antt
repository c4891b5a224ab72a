-- `filling::fill` meets its contract: a list of whole rows has at most 512.
-- Assumes nothing.
use mathlib.Core.Path.{sym, ◌∙◌}
use mathlib.Core.Bool.{true≢false}
use Rattle.reading.proofs.Checks.{most-512}
use Rattle.filling.proofs.fill.Goals as goal
use Rattle.filling.proofs.fill.Goals.{then-whole, else-whole}

pub enter_all-requires-clause-few : goal.enter_all-requires-clause-few
enter_all-requires-clause-few c =
    elim c.if-whole.branch [
      | then-whole w ↦ most-512 c.args.l c.args.list.now (sym c.whole.ensures ∙ w.if-whole.true)
      | else-whole w ↦ absurd (true≢false (sym c.if-count-roles.true ∙ w.value-is ∙ w.if-whole.false))
    ]
