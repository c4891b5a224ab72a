-- `uses` meets its contract: it is the part from its byte on, which lies within the state.
-- Assumes nothing.
use native.Mathlib.Omega.{arith}
use Rattle.tally.specs.Tally.{most_kept}
use Rattle.state.specs.Layout.{uses_at}
use Rattle.state.proofs.Sizes.{sizes}
use Rattle.state.proofs.uses.Goals as goal

pub part-requires : goal.part-requires
part-requires c = omega (arith, sizes)

pub returns : goal.returns
unfolding uses_at most_kept
returns c = c.part.ensures
