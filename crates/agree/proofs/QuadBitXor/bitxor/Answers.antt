-- A sum of two quads meets its contract: its lines are the definition's.
-- Assumes nothing.
use mathlib.Core.Path.{refl}
use Rattle.space.specs.Space.{◌⊕◌}
use Rattle.agree.specs.Quads.{quad_plus}
use Rattle.agree.proofs.QuadBitXor.bitxor.Goals as goal

pub returns : goal.returns
unfolding quad_plus ◌⊕◌
returns c = refl
