-- `apart::gather` meets its contract. The loop holds the entries gathered from those before.
-- Assumes nothing.
use mathlib.Core.Path.{◌≡◌, sym, ap₂, ◌∙◌}
use mathlib.Core.Bool.{true}
use mathlib.Core.List.{List}
use Prim.Native.Nat.{ℕ, ◌≤◌, ◌<◌}
use lib.ListN.{length}
use Rattle.octets.proofs.Runs.{known_below}
use Rattle.rows.specs.Rows.{row_count}
use Rattle.apart.specs.Apart.{appended, gatherable}
use Rattle.apart.proofs.Fitting.{Gatherable, fits_so, fits_not, fits_all}
use Rattle.apart.proofs.Gathering.{gathering_start, gathering_end, gathering_room, gathering_more}
use native.Mathlib.Omega.{arith}
use Rattle.apart.proofs.gather.Goals as goal
use Rattle.apart.proofs.gather.Goals.{Else-not-can_gather, In-loop-i}

pub returns-then-not-can_gather : goal.returns-then-not-can_gather
returns-then-not-can_gather c =
    fits_not c.args.l c.args.list.now c.args.page.now c.args.into.now (sym c.can_gather.ensures ∙ c.if-not-can_gather.true)

pub loop-i-init : goal.loop-i-init
loop-i-init c = gathering_start c.args.l c.args.list.now c.args.page.now c.args.into.now

-- the entries fit
fitted : (c : Else-not-can_gather) → gatherable c.args.l (length c.args.list.now) (length c.args.into.now) ≡ true
fitted c = sym c.can_gather.ensures ∙ c.if-not-can_gather.false

fit : (c : Else-not-can_gather) → Gatherable c.args.l (length c.args.list.now) (length c.args.into.now)
fit c = fits_so c.args.l (length c.args.list.now) (length c.args.into.now) (fitted c)

few : (c : Else-not-can_gather) → row_count c.args.l c.args.list.now ≤ 512
unfolding row_count
few c = (fit c).few

-- the next entry is in the list
inside : (c : In-loop-i) → c.loop-i.i < row_count c.args.l c.args.list.now
unfolding row_count
inside c = omega (arith, c.loop-i-test.true, c.count-i-end.ensures)

pub append-k-requires : goal.append-k-requires
append-k-requires c =
    let k = (goal.at.append-k-requires c).Else-not-can_gather in
    let loop = c.loop-i in
    let next = gathering_room c.args.l c.args.list.now c.args.page.now c.args.into.now loop.into loop.k loop.i loop.invariant (inside (goal.at.append-k-requires c).In-loop-i) (few k) (fit k).long in
    rw c.entry.ensures.shows (record { room = next.0; few = next.1 })

pub loop-i-preserved : goal.loop-i-preserved
loop-i-preserved c =
    let k = (goal.at.loop-i-preserved c).Else-not-can_gather in
    let loop = c.loop-i in
    let append = c.append-k in
    gathering_more c.args.l c.args.list.now c.args.page.now c.args.into.now loop.into loop.k loop.i loop.invariant (inside (goal.at.loop-i-preserved c).In-loop-i) (few k)
    (fit k).low (fit k).high (known_below c.args.list.now c.type_inv.list) append.result append.new.list
    (append.ensures ∙ ap₂ (λ (row entry : List ℕ). appended c.args.page.now row entry loop.k loop.into) c.row-row.ensures.shows c.entry.ensures.shows) append.auto.list

pub shape_of-into : goal.shape_of-into
shape_of-into c = c.loop-i.invariant.long

pub returns : goal.returns
unfolding row_count
returns c =
    let loop = c.loop-i in
    gathering_end c.args.l c.args.list.now c.args.page.now c.args.into.now loop.into loop.k loop.i loop.invariant (omega (arith, c.loop-i-test.false, c.count-i-end.ensures))
    ∙ fits_all c.args.l c.args.list.now c.args.page.now c.args.into.now (fitted (goal.at.returns c).Else-not-can_gather)
