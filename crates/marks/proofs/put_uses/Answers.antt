-- `marks::put_uses` meets its contract: a loop that marks arrival by arrival, where there is room for each.
-- Assumes nothing.
use Prim.Native.Nat.{◌/◌}
use native.Mathlib.Omega.{arith}
use lib.ListN.{length}
use borrow.Author.Tests.{le-leb}
use Rattle.places.specs.Places.{given_by}
use Rattle.marks.specs.Mark.{uses_of, uses_marked}
use Rattle.marks.proofs.Marking.{marked_more, marked_end}
use Rattle.marks.proofs.put_uses.Goals as goal

pub loop-arrival-preserved : goal.loop-arrival-preserved
loop-arrival-preserved g c =
    let form = g.U.Uses in
    marked_more form.room_in form.put_at form.written c.room.ensures.one_more (λ x. uses_of c.args.counts.now (given_by x)) c.args.places.now c.args.uses.now
    c.loop-arrival.arrival c.loop-arrival-test.true (omega (arith, c.if-room-rows.false, c.room.ensures.room)) c.uses_at.result c.uses_at.ensures
    c.loop-arrival.uses c.put.new.uses c.loop-arrival.invariant c.put.ensures

pub returns : goal.returns
unfolding uses_marked
returns g c =
    let form = g.U.Uses in
    rw (le-leb (length c.args.places.now / 2) (form.room_in (length c.args.uses.now)) (omega (arith, c.if-room-rows.false, c.room.ensures.room)))
    (marked_end form.room_in form.put_at form.written c.room.ensures.one_more (λ x. uses_of c.args.counts.now (given_by x)) c.args.places.now c.args.uses.now
    c.loop-arrival.arrival c.loop-arrival-test.false c.loop-arrival.uses c.loop-arrival.invariant)
