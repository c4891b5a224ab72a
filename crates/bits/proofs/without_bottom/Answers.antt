-- `bits::without_bottom` meets its contract: `x & (x - 1)` takes the lowest set bit away, and of 0 it leaves 0.
-- Assumes nothing.
use Rattle.bits.proofs.Bits.{lowest_off}
use Rattle.bits.proofs.without_bottom.Goals as goal

pub returns : goal.returns
returns c = lowest_off c.args.x c.ranges.x.fits
