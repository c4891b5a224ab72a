-- `order` meets its contract: it is the part from its byte on, which lies within the state.
-- Assumes nothing.
use native.Mathlib.Omega.{arith}
use Rattle.state.specs.Layout.{order_at}
use Rattle.state.proofs.Sizes.{sizes}
use Rattle.state.proofs.order.Goals as goal

pub part-requires : goal.part-requires
part-requires c = omega (arith, sizes)

pub returns : goal.returns
unfolding order_at
returns c = c.part.ensures
