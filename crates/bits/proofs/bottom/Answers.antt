-- `bits::bottom` meets its contract: its place is the number of trailing zeros.
-- Assumes nothing.
use mathlib.Core.Path.{refl}
use Rattle.bits.specs.Bits.{lowest}
use Rattle.bits.proofs.bottom.Goals as goal

pub returns : goal.returns
unfolding lowest
returns c = refl
