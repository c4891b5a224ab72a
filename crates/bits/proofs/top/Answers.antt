-- `bits::top` meets its contract: the logarithm of a number is the place of its highest set bit.
-- Assumes nothing.
use mathlib.Core.Path.{◌∙◌}
use Rattle.bits.proofs.Bits.{log_highest}
use Rattle.bits.proofs.top.Goals as goal

pub returns : goal.returns
returns c =
    let log = c.checked_ilog2.ensures in
    c.unwrap_or.ensures ∙ log_highest c.args.x c.checked_ilog2.result c.ranges.x.fits log.none log.power_le log.next_power_gt
