-- `reduce` meets its contract: what fits is swept, and nothing is written else.
-- Assumes nothing.
use native.Mathlib.Omega.{arith}
use mathlib.Core.Path.{sym, ◌∙◌}
use lib.ListN.{length}
use Rattle.slots.proofs.Fits.{fits_so}
use Rattle.slots.proofs.reduce.Goals as goal

pub overflow_mul-key : goal.overflow_mul-key
overflow_mul-key c = omega (arith, fits_so c.args.key (length c.args.work.now) (length c.args.slots.now) (sym c.fitting.ensures ∙ c.if-not-fitting.false))
