-- `is_noted` meets its contract: the second bit is looked at where the first is set.
-- Assumes nothing.
use mathlib.Core.Path.{sym, ◌∙◌}
use Rattle.filter.specs.Filter.{second_bit, noted}
use Rattle.filter.proofs.is_noted.Goals as goal

pub returns-then-is_set : goal.returns-then-is_set
unfolding second_bit noted
returns-then-is_set c = rw (sym c.is_set.ensures ∙ c.if-is_set.true) c.is_set-then-is_set.ensures

pub returns-else-is_set : goal.returns-else-is_set
unfolding noted
returns-else-is_set c = rw (c.if-is_set.false, sym c.is_set.ensures ∙ c.if-is_set.false)
