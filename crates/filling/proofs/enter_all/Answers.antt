-- `filling::enter_all` meets its contract: at each arrival, the rows from there on fill the slots as all of them do.
-- Assumes nothing.
use mathlib.Core.Path.{◌≡◌, ap, ◌∙◌}
use Prim.Native.Nat.{◌+◌, ◌-◌, ◌<◌}
use mathlib.Core.List.{[], ◌∷◌}
use native.Mathlib.Omega.{arith}
use lib.ListN.{length, get_or}
use Rattle.octets.specs.Octets.{number}
use Rattle.octets.proofs.Runs.{known_below}
use Rattle.rows.specs.Rows.{row_count, rows_of}
use Rattle.lists.proofs.Rows.{row-length, row_number}
use Rattle.chosen.specs.Chosen.{chosen}
use Rattle.filling.specs.Fill.{leaves, fill_rows, rows_bytes}
use Rattle.filling.proofs.Offers.{offering-start, offering_end, offering-more, offering-stop}
use Rattle.filling.proofs.enter_all.Goals as goal
use Rattle.filling.proofs.enter_all.Goals.{After-offer}

pub loop-i-init : goal.loop-i-init
loop-i-init c = let A = c.args in offering-start A.l A.list.now A.roles.now A.slots.now

pub offer-requires : goal.offer-requires
unfolding row_count
offer-requires c =
    let inside : c.loop-i.i < row_count c.args.l c.args.list.now = omega (arith, c.loop-i-test.true, c.count-i-end.ensures) in
    omega (arith, ap length c.row.ensures.shows, row-length c.args.l c.loop-i.i c.args.list.now (omega (arith, inside, c.requires.few)) inside)

-- the row at an arrival
module _ (c : After-offer) where
  inside : c.loop-i.i < row_count c.args.l c.args.list.now
  unfolding row_count
  inside = omega (arith, c.loop-i-test.true, c.count-i-end.ensures)

  few : c.loop-i.i < 512
  few = omega (arith, inside, c.requires.few)

  size : length c.row.result.now ≡ 8 + c.args.l
  size = ap length c.row.ensures.shows ∙ row-length c.args.l c.loop-i.i c.args.list.now few inside

  value : number c.row.result.now ≡ get_or (rows_of c.args.l c.args.list.now) c.loop-i.i 0
  value =
      ap number c.row.ensures.shows
      ∙ row_number c.args.l c.loop-i.i c.args.list.now few inside (known_below c.args.list.now c.type_inv.list)

-- what came of it
offered : (c : After-offer)
    → leaves c.offer.new.slots c.offer.result
    ≡ fill_rows c.loop-i.slots (rows_bytes c.args.l (chosen (get_or c.args.roles.now c.loop-i.i 0 ∷ []) (get_or (rows_of c.args.l c.args.list.now) c.loop-i.i 0 ∷ [])))
offered c =
    let back : 8 + c.args.l - 8 ≡ c.args.l = omega arith in
    rw (size c, back, value c, c.role.ensures) at c.offer.ensures

pub shape_of-slots-then-not-offer : goal.shape_of-slots-then-not-offer
shape_of-slots-then-not-offer c = c.offer.auto.slots ∙ c.loop-i.invariant.long

pub returns-then-not-offer : goal.returns-then-not-offer
returns-then-not-offer c =
    let A = c.args in
    offering-stop A.l A.list.now A.roles.now A.slots.now c.loop-i.slots c.loop-i.i c.loop-i.invariant c.requires.roles (inside (goal.at.returns-then-not-offer c).After-offer) c.offer.result c.offer.new.slots (offered (goal.at.returns-then-not-offer c).After-offer) (c.if-not-offer.true)

pub loop-i-preserved : goal.loop-i-preserved
loop-i-preserved c =
    let A = c.args in
    offering-more A.l A.list.now A.roles.now A.slots.now c.loop-i.slots c.loop-i.i c.loop-i.invariant c.requires.roles (inside (goal.at.loop-i-preserved c).After-offer) c.offer.result c.offer.new.slots (offered (goal.at.loop-i-preserved c).After-offer) (c.if-not-offer.false) c.offer.auto.slots

pub shape_of-slots : goal.shape_of-slots
shape_of-slots c = c.loop-i.invariant.long

pub returns : goal.returns
returns c =
    let A = c.args in
    let l = c.loop-i in
    offering_end A.l A.list.now A.roles.now A.slots.now l.slots l.i l.invariant (unfold row_count in omega (arith, c.loop-i-test.false, c.count-i-end.ensures))
