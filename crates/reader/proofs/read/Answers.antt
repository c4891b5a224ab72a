-- `reader::read` meets its contract: the checks refuse, or the rows are read and the uses written.
-- Assumes nothing.
use mathlib.Core.Path.{sym, ap, ◌∙◌}
use mathlib.Core.List.{List}
use Prim.Native.Nat.{ℕ}
use lib.ListN.{length}
use Rattle.rows.specs.Rows.{row_count}
use Rattle.reading.specs.Answer.{answer_numbers}
use Rattle.state.specs.Layout.{uses_part, places_part}
use Rattle.checks.specs.Checks.{check_of}
use Rattle.marks.specs.Mark.{uses_after_in}
use Rattle.ends.proofs.Clearing.{has-state, cleared_since}
use Rattle.reader.proofs.Ends.{checks_say, says_passed, ends_refused, wide, ends_read}
use Rattle.reader.proofs.read.Goals as goal

pub returns-in-Err : goal.returns-in-Err
returns-in-Err g c =
    let A = c.args in
    let U = c.room.ensures in
    ends_refused U.one_more U.back A.n A.l A.list.now A.page.now A.roles.now A.scratch.now c.in-Err.answer
    (sym (ap check_of c.in-Err.is) ∙ checks_say U.one_more U.back A.n A.l A.list.now A.page.now A.roles.now A.scratch.now c.all.result c.room.result c.all.ensures U.room)

pub read_in-answer-requires-clause-passing : goal.read_in-answer-requires-clause-passing
read_in-answer-requires-clause-passing g c =
    let A = c.args in
    let U = c.room.ensures in
    let pass = says_passed U.one_more U.back A.n A.l A.list.now A.page.now A.roles.now A.scratch.now c.all.result c.room.result c.all.ensures U.room c.in_default.is in
    let room = wide U.one_more U.back A.n A.l A.list.now A.page.now A.roles.now A.scratch.now pass in
    record { uses = g.U.Uses.counts A.uses.now; scratch = A.scratch.now; passes = pass; whole = has-state (length A.scratch.now) room }

pub read_in-answer-requires-clause-room : goal.read_in-answer-requires-clause-room
read_in-answer-requires-clause-room g c =
    let A = c.args in
    let U = c.room.ensures in
    wide U.one_more U.back A.n A.l A.list.now A.page.now A.roles.now A.scratch.now
    (says_passed U.one_more U.back A.n A.l A.list.now A.page.now A.roles.now A.scratch.now c.all.result c.room.result c.all.ensures U.room c.in_default.is)

pub returns : goal.returns
unfolding row_count
returns g c =
    let A = c.args in
    let U = c.room.ensures in
    let L = c.read_in-answer in
    let E = c.end in
    let state : List ℕ = L.new.scratch in
    let pass = says_passed U.one_more U.back A.n A.l A.list.now A.page.now A.roles.now A.scratch.now c.all.result c.room.result c.all.ensures U.room c.in_default.is in
    let room = wide U.one_more U.back A.n A.l A.list.now A.page.now A.roles.now A.scratch.now pass in
    ends_read U.one_more U.back A.n A.l A.list.now A.page.now A.roles.now A.scratch.now pass L.result L.new.page L.new.roles state E.new.uses E.new.scratch L.ensures.reads
    (E.ensures.uses
    ∙ ap (λ (m : ℕ). uses_after_in g.U.Uses.room_in g.U.Uses.written (places_part m state) (uses_part (answer_numbers L.result).rank state) A.uses.now) c.count.ensures)
    (cleared_since A.scratch.now state E.new.scratch (rw L.auto.scratch room) L.ensures.behind E.ensures.scratch)
