-- `put_head` meets its contract: the part that is lent has the heads of all slots.
-- Assumes nothing.
use native.Mathlib.Omega.{arith}
use Rattle.slotting.proofs.Fits.{head-part}
use Rattle.state.specs.Layout.{heads_at}
use Rattle.keeping.specs.Keeping.{head_at}
use Rattle.state.proofs.Sizes.{sizes}
use Rattle.keeping.proofs.put_head.Goals as goal

pub slice_bounds-put_head-end : goal.slice_bounds-put_head-end
slice_bounds-put_head-end c = omega (arith, sizes, c.requires.whole)

pub returns : goal.returns
unfolding head_at heads_at
returns c =
    head-part 27264 2560 c.args.t c.args.vector.now c.args.state.now c.put_head.new.heads (omega (arith, sizes, c.requires.slot)) (omega (arith, sizes, c.requires.whole)) c.put_head.ensures
