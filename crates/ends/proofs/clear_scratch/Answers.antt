-- `ends::clear_scratch` meets its contract: a scratch that is too short stays; else its front is lent and comes back cleared.
-- Assumes nothing.
use mathlib.Core.Path.{sym}
use native.Mathlib.Omega.{arith}
use lib.Seq.{length-take-le}
use Rattle.reading.specs.Outcome.{scratch_bytes}
use Rattle.ends.proofs.Clearing.{not_cleared, cleared-part}
use Rattle.ends.proofs.clear_scratch.Goals as goal

pub returns-then-scratch-lt-SCRATCH : goal.returns-then-scratch-lt-SCRATCH
unfolding scratch_bytes
returns-then-scratch-lt-SCRATCH c = not_cleared c.args.scratch.now c.if-scratch-lt-SCRATCH.true

pub slice_bounds-clear-end-2 : goal.slice_bounds-clear-end-2
slice_bounds-clear-end-2 c = sym (length-take-le _ c.args.scratch.now (omega (arith, c.if-scratch-lt-SCRATCH.false)))

pub returns : goal.returns
unfolding scratch_bytes
returns c = cleared-part c.args.scratch.now c.clear.new.v c.if-scratch-lt-SCRATCH.false c.clear.ensures
