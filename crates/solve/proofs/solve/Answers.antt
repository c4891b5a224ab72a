-- `solve::solve` meets its contract: where the arguments fit, what the rows do in the cleared slots decides, and nothing is written else.
-- Assumes nothing.
use mathlib.Core.Path.{sym, ap}
use mathlib.Core.Bool.{not}
use mathlib.Core.List.{◌++◌}
use Prim.Native.Nat.{◌≤◌}
use native.Mathlib.Omega.{arith}
use lib.ListN.{length, drop}
use lib.Seq.{length-take-le}
use Rattle.entering.specs.Enter.{slot_bytes}
use Rattle.solve.proofs.Outcomes.{Fitting, fitting_so, part-long, after-long, outcome-page, outcome-singular}
use Rattle.solve.proofs.solve.Goals as goal
use Rattle.solve.proofs.solve.Goals.{After-write_page-all, Else-not-fitting}

-- the arguments fit
abbrev Held : (c : Else-not-fitting) → Type 0
Held c =
    let A = c.args in
    Fitting A.n A.l A.list.now A.roles.now A.slots.now A.page.now

held : (c : Else-not-fitting) → Held c
held c =
    let A = c.args in
    fitting_so A.n A.l A.list.now A.roles.now A.slots.now A.page.now c.fitting.result c.fitting.ensures (ap not c.if-not-fitting.false)

pub slice_bounds-write_page-end-2 : goal.slice_bounds-write_page-end-2
unfolding slot_bytes
slice_bounds-write_page-end-2 c =
    sym (length-take-le _ c.args.slots.now (omega (arith, (held (goal.at.slice_bounds-write_page-end-2 c).Else-not-fitting).wide)))

pub write_page-all-requires : goal.write_page-all-requires
unfolding slot_bytes
write_page-all-requires c =
    let A = c.args in
    part-long A.n A.l A.list.now A.roles.now A.slots.now A.page.now (held (goal.at.write_page-all-requires c).Else-not-fitting)

-- the slots are as long as they were
abbrev Long : (c : After-write_page-all) → Type 0
Long c =
    let A = c.args in
    5632 ≤ length (c.write_page-all.new.slots ++ drop (5632) A.slots.now)

long : (c : After-write_page-all) → Long c
unfolding slot_bytes
long c =
    let A = c.args in
    after-long A.n A.l A.list.now A.roles.now A.slots.now A.page.now (fitting_so A.n A.l A.list.now A.roles.now A.slots.now A.page.now c.fitting.result c.fitting.ensures (ap not c.if-not-fitting.false)) c.write_page-all.new.slots c.write_page-all.auto.slots

pub slice_bounds-clear-end-2 : goal.slice_bounds-clear-end-2
slice_bounds-clear-end-2 c =
    sym (length-take-le _ (c.write_page-all.new.slots ++ drop 5632 c.args.slots.now) (omega (arith, long (goal.at.slice_bounds-clear-end-2 c).After-write_page-all)))

pub returns-then-all : goal.returns-then-all
unfolding slot_bytes
returns-then-all c =
    let A = c.args in
    let s = c.write_page-all in
    let k = c.clear in
    let told = outcome-page A.n A.l A.list.now A.roles.now A.slots.now A.page.now (held (goal.at.returns-then-all c).Else-not-fitting) s.new.slots s.auto.slots
    s.result k.new.v s.new.page s.ensures.answer s.ensures.page k.ensures c.if-all.true in
    record { answer = told.0; slots = told.1.0; page = told.1.1 }

pub returns-else-all : goal.returns-else-all
unfolding slot_bytes
returns-else-all c =
    let A = c.args in
    let s = c.write_page-all in
    let k = c.clear in
    let told = outcome-singular A.n A.l A.list.now A.roles.now A.slots.now A.page.now (held (goal.at.returns-else-all c).Else-not-fitting) s.new.slots s.auto.slots
    s.result k.new.v s.new.page s.ensures.answer s.ensures.page k.ensures c.if-all.false in
    record { answer = told.0; slots = told.1.0; page = told.1.1 }
