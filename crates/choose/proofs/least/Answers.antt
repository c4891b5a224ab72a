-- `choose::least` meets its contract: the number sought stays in an interval, from 0 to 65536 at first, whose width each turn halves.
-- Assumes nothing.
use native.Mathlib.Omega.{arith}
use Rattle.octets.proofs.Runs.{known_below}
use Rattle.doubles.specs.Doubles.{pairs_in}
use Rattle.doubles.proofs.Doubles.{pairs_lt}
use Rattle.choose.specs.Pick.{none_picked}
use Rattle.choose.proofs.Threshold.{least_le, least_halved}
use Rattle.choose.proofs.least.Goals as goal

pub loop-width-init : goal.loop-width-init
loop-width-init c =
    let counts = c.args.counts.now in
    omega (arith, least_le c.args.n (pairs_in counts) none_picked (pairs_lt counts (known_below counts c.type_inv.counts)))

pub loop-width-preserved : goal.loop-width-preserved
loop-width-preserved c =
    let inv = c.loop-width.invariant in
    let half = least_halved _ _ _ _ c.loop-width.width _ inv.0 inv.1 (omega arith) c.raised-low.ensures in
    (half.0, half.1, inv.2, omega arith)
