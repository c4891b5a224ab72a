-- `chosen::adding` meets its contract: the sum so far and what the rows from here on add make the whole.
-- Assumes nothing.
use mathlib.Core.Path.{◌≡◌, ap, ◌∙◌}
use Prim.Native.Nat.{◌+◌, ◌-◌, ◌≤◌, ◌<◌}
use mathlib.Core.List.{[], ◌∷◌}
use native.Mathlib.Omega.{arith}
use lib.ListN.{length, get_or}
use Rattle.octets.specs.Octets.{number}
use Rattle.octets.proofs.Runs.{known_below}
use Rattle.rows.specs.Rows.{row_count, rows_of}
use Rattle.lists.proofs.Rows.{row-length, row_number}
use Rattle.chosen.specs.Chosen.{chosen}
use Rattle.chosen.specs.Weight.{weight}
use Rattle.chosen.proofs.Weights.{adding_start, adding_end, adding_more, weight-one}
use Rattle.chosen.proofs.adding.Goals as goal
use Rattle.chosen.proofs.adding.Goals.{After-adds-sum}

pub loop-i-init : goal.loop-i-init
loop-i-init c = let A = c.args in adding_start A.n A.l A.list.now A.roles.now

pub adds-sum-requires : goal.adds-sum-requires
unfolding row_count
adds-sum-requires c =
    let inside : c.loop-i.i < row_count c.args.l c.args.list.now = omega (arith, c.loop-i-test.true, c.count-i-end.ensures) in
    omega (arith, ap length c.row.ensures.shows, row-length c.args.l c.loop-i.i c.args.list.now (omega (arith, inside, c.requires.few)) inside)

-- the row at an arrival
module _ (c : After-adds-sum) where
  inside : c.loop-i.i < row_count c.args.l c.args.list.now
  unfolding row_count
  inside = omega (arith, c.loop-i-test.true, c.count-i-end.ensures)

  few : c.loop-i.i < 512
  few = omega (arith, inside, c.requires.few)

  size : length c.row.result.now ≡ 8 + c.args.l
  size = ap length c.row.ensures.shows ∙ row-length c.args.l c.loop-i.i c.args.list.now few inside

  value : number c.row.result.now ≡ get_or (rows_of c.args.l c.args.list.now) c.loop-i.i 0
  value =
      ap number c.row.ensures.shows
      ∙ row_number c.args.l c.loop-i.i c.args.list.now few inside (known_below c.args.list.now c.type_inv.list)

-- what it adds
added : (c : After-adds-sum)
    → c.adds-sum.result ≡ weight c.args.n c.args.l (chosen (get_or c.args.roles.now c.loop-i.i 0 ∷ []) (get_or (rows_of c.args.l c.args.list.now) c.loop-i.i 0 ∷ []))
added c =
    let back : 8 + c.args.l - 8 ≡ c.args.l = omega arith in
    rw (size c, back, value c, c.role.ensures) at c.adds-sum.ensures

most : (c : After-adds-sum) → c.adds-sum.result ≤ 65
most c = rw (added c) (weight-one c.args.n c.args.l (get_or c.args.roles.now c.loop-i.i 0) (get_or (rows_of c.args.l c.args.list.now) c.loop-i.i 0))

pub overflow_add-sum : goal.overflow_add-sum
overflow_add-sum c =
    omega (arith, most c, c.loop-i.invariant.small, inside (goal.at.overflow_add-sum c).After-adds-sum, c.requires)

pub loop-i-preserved : goal.loop-i-preserved
loop-i-preserved c =
    let A = c.args in
    adding_more A.n A.l A.list.now A.roles.now c.loop-i.sum c.loop-i.i c.loop-i.invariant c.requires.roles (inside (goal.at.loop-i-preserved c).After-adds-sum) c.adds-sum.result (added c) (most c)

pub returns : goal.returns
returns c =
    let A = c.args in
    let l = c.loop-i in
    adding_end A.n A.l A.list.now A.roles.now l.sum l.i l.invariant (unfold row_count in omega (arith, c.loop-i-test.false, c.count-i-end.ensures))
