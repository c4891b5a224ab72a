-- `has` meets its contract: the shifted word is odd exactly where the digit is set.
-- Assumes nothing.
use mathlib.Core.Path.{refl}
use Rattle.basis.specs.Algorithm2.{digit}
use Rattle.slots.proofs.has.Goals as goal

pub returns : goal.returns
unfolding digit
returns c = refl
