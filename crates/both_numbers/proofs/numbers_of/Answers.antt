-- `both_numbers::numbers_of` meets its contract.
-- Assumes nothing.
use Rattle.both_numbers.specs.Numbers.{both_numbers}
use Rattle.both_numbers.proofs.numbers_of.Goals as goal

pub returns : goal.returns
unfolding both_numbers
returns c = rw (c.numbers_of-first.ensures, c.numbers_of-second.ensures)
