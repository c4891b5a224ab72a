-- `places` meets its contract: it is the part from its byte on, which lies within the state.
-- Assumes nothing.
use native.Mathlib.Omega.{arith}
use Rattle.state.specs.Layout.{places_at}
use Rattle.state.proofs.Sizes.{sizes}
use Rattle.state.proofs.places.Goals as goal

pub part-requires : goal.part-requires
part-requires c = omega (arith, sizes)

pub returns : goal.returns
unfolding places_at
returns c = c.part.ensures
