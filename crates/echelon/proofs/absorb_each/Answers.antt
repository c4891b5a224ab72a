-- `absorb_each` meets its contract: from each place of the order on the rest of it ends as the whole order does.
-- Assumes nothing.
use native.Mathlib.Omega.{arith}
use Rattle.echelon.proofs.Turning.{turning_start, turning_more, turning_end}
use Rattle.echelon.proofs.absorb_each.Invariants.{whole}
use Rattle.echelon.proofs.absorb_each.Goals as goal

pub loop-i-init : goal.loop-i-init
loop-i-init c =
    let A = c.args in
    turning_start A.l A.list.now A.taken A.state.now

pub absorb_at-rank-requires : goal.absorb_at-rank-requires
absorb_at-rank-requires c = omega (arith, c.loop-i.invariant.few, c.loop-i-test.true, c.requires.few)

pub overflow_step-i : goal.overflow_step-i
overflow_step-i c = omega (arith, c.loop-i-test.true)

pub loop-i-smaller : goal.loop-i-smaller
loop-i-smaller c = omega (arith, c.loop-i-test.true)

pub loop-i-preserved : goal.loop-i-preserved
loop-i-preserved c =
    let A = c.args in
    let l = c.loop-i in
    let a = c.absorb_at-rank in
    turning_more A.l A.list.now A.taken (whole A.l A.list.now A.taken A.state.now) A.state.now l.state l.rank l.i l.invariant
    c.loop-i-test.true c.requires.few c.requires.whole c.arrival-arrival.result.0 c.arrival-arrival.ensures a.new.state a.result a.auto.state a.ensures.state a.ensures.rank

pub shape_of-state : goal.shape_of-state
shape_of-state c = c.loop-i.invariant.long

pub returns : goal.returns
returns c =
    let A = c.args in
    let l = c.loop-i in
    let end = turning_end A.l A.list.now A.taken (whole A.l A.list.now A.taken A.state.now) A.state.now l.state l.rank l.i l.invariant c.loop-i-test.false in
    record { rank = end.0; state = end.1 }
