-- `is_set` meets its contract: the byte is shifted down to the bit.
-- Assumes nothing.
use mathlib.Core.Path.{refl}
use Rattle.filter.specs.Filter.{filter_bytes, byte_of, is_set}
use Rattle.filter.proofs.is_set.Goals as goal

pub returns : goal.returns
unfolding filter_bytes byte_of is_set
returns c = refl
