-- A sum of two vectors meets its contract.
-- Assumes nothing.
use mathlib.Core.Path.{refl}
use Rattle.space.specs.Space.{◌⊕◌}
use Rattle.vectors.specs.Vectors.{plus_of}
use Rattle.vectors.proofs.VectorBitXor.bitxor.Goals as goal

pub returns : goal.returns
unfolding plus_of ◌⊕◌
returns c = refl
