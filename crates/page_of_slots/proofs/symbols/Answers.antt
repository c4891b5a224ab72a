-- `symbols` meets its contract: after k turns the first k symbols stand in the page.
-- Assumes nothing.
use mathlib.Core.Path.{sym, ◌∙◌}
use Prim.Native.Nat.{◌+◌, ◌*◌, ◌≤◌}
use native.Mathlib.Omega.{arith}
use lib.ListN.{length}
use Rattle.page_of_slots.specs.Symbols.{page_in}
use Rattle.page_of_slots.proofs.Writing.{writing_start, writing_end, writing_room, writing_part, writing_more}
use Rattle.page_of_slots.proofs.symbols.Invariants.{symbol_of}
use Rattle.page_of_slots.proofs.symbols.Goals as goal
use Rattle.page_of_slots.proofs.symbols.Goals.{In-loop-k}

pub loop-k-init : goal.loop-k-init
loop-k-init c =
    let size = c.args.l in
    record { writing = writing_start c.args.n size (symbol_of size c.args.slots.now) c.args.page.now; ready = c.requires.ready }

-- the next symbol is in the page
room : (c : In-loop-k) → c.loop-k.k * c.args.l + c.args.l ≤ length c.loop-k.page
room c =
    let size = c.args.l in
    let l = c.loop-k in
    writing_room c.args.n size (symbol_of size c.args.slots.now) c.args.page.now l.page l.k c.requires.room l.invariant.writing c.loop-k-test.true

pub overflow_mul-at : goal.overflow_mul-at
overflow_mul-at c = omega (arith, room c, c.loop-k.invariant.writing.long, c.well_formed)

pub overflow_add-end : goal.overflow_add-end
overflow_add-end c = omega (arith, room c, c.loop-k.invariant.writing.long, c.well_formed)

pub slice_bounds-symbol-end : goal.slice_bounds-symbol-end
slice_bounds-symbol-end c = omega (arith, room c)

pub symbol-requires : goal.symbol-requires
symbol-requires c =
    let size = c.args.l in
    let l = c.loop-k in
    let part = writing_part c.args.n size (symbol_of size c.args.slots.now) c.args.page.now l.page l.k c.requires.room l.invariant.writing
    c.loop-k-test.true in
    record { ready = rw part l.invariant.ready; bit = omega (arith, c.loop-k-test.true, c.requires.few) }

pub loop-k-preserved : goal.loop-k-preserved
loop-k-preserved c =
    let size = c.args.l in
    let l = c.loop-k in
    let R = l.invariant.ready in
    let part = writing_part c.args.n size (symbol_of size c.args.slots.now) c.args.page.now l.page l.k c.requires.room l.invariant.writing
    c.loop-k-test.true in
    let s = c.symbol in
    record {
      writing = writing_more c.args.n size (symbol_of size c.args.slots.now) c.args.page.now l.page l.k c.requires.room l.invariant.writing
          c.loop-k-test.true s.new.out (rw part at s.ensures);
      ready = record { least = R.least; most = R.most; one = s.auto.work ∙ R.one; all = R.all };
    }

pub shape_of-page : goal.shape_of-page
shape_of-page c = c.loop-k.invariant.writing.long

pub shape_of-work : goal.shape_of-work
shape_of-work c = c.loop-k.invariant.ready.one ∙ sym c.requires.ready.one

pub returns : goal.returns
unfolding page_in
returns c =
    let size = c.args.l in
    let l = c.loop-k in
    writing_end c.args.n size (symbol_of size c.args.slots.now) c.args.page.now l.page l.k c.requires.room l.invariant.writing c.loop-k-test.false
