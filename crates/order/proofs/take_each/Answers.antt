-- `take_each` meets its contract: before each turn the order has what is taken of the entries so far, and the filter has their seeds.
-- Assumes nothing.
use native.Mathlib.Omega.{arith}
use mathlib.Core.Path.{◌∙◌}
use Rattle.order.proofs.Writing.{writing_start, writing_next, writing_more, writing_end}
use Rattle.order.proofs.take_each.Goals as goal

pub loop-i-init : goal.loop-i-init
loop-i-init c =
    let F = c.forget in
    writing_start c.args.l c.args.list.now F.new.state c.args.state.now c.args.m c.requires.whole F.ensures

pub take_row-taken-requires : goal.take_row-taken-requires
take_row-taken-requires c =
    let F = c.forget in
    let l = c.loop-i in
    let next = writing_next c.args.l c.args.list.now F.new.state c.args.m c.requires.rows c.requires.many (omega (arith, c.requires.whole, F.auto.state)) l.state l.i l.taken l.invariant c.loop-i-test.true in
    record { next = next.0; few = next.1 }

pub loop-i-preserved : goal.loop-i-preserved
loop-i-preserved c =
    let F = c.forget in
    let l = c.loop-i in
    let T = c.take_row-taken in
    writing_more c.args.l c.args.list.now F.new.state c.args.m c.requires.rows c.requires.many (omega (arith, c.requires.whole, F.auto.state)) l.state l.i l.taken l.invariant
    c.loop-i-test.true T.new.state T.result T.ensures.answer T.ensures.state T.auto.state

pub shape_of-state : goal.shape_of-state
shape_of-state c = c.loop-i.invariant.long ∙ c.forget.auto.state

pub returns : goal.returns
returns c =
    let F = c.forget in
    let l = c.loop-i in
    let both = writing_end c.args.l c.args.list.now F.new.state c.args.m c.requires.rows c.requires.many (omega (arith, c.requires.whole, F.auto.state)) l.state l.i l.taken l.invariant
    c.loop-i-test.false c.args.state.now c.requires.whole F.ensures in
    record { answer = both.0; state = both.1 }
