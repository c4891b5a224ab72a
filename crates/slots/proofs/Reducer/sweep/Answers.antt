-- `sweep` meets its contract: group after group, the rest of the pass ends as the whole does.
-- Assumes nothing.
use Rattle.std.proofs.Common.{rules}
use native.Mathlib.Omega.{arith}
use mathlib.Core.Path.{◌≡◌}
use lib.ListN.{length}
use Prim.Native.Nat.{◌+◌, ◌*◌}
use Rattle.octets.specs.Octets.{bytes}
use Rattle.octets.proofs.Runs.{known_below}
use Rattle.slots.specs.Reducing.{pass_of}
use Rattle.slots.proofs.Fits.{Fits, fits_so}
use Rattle.slots.proofs.Sweeping.{swept_start, swept_stop, swept_on, swept_end}
use Rattle.slots.proofs.Reducer.sweep.Goals as goal
use Rattle.slots.proofs.Reducer.sweep.Goals.{Start, else-loop-g-test, then-loop-g-test+else-u-g+else-g-end-g-gt8}

fit : (c : Start) → Fits c.args.self.now.key c.args.self.now.width (length c.args.self.now.slots.now)
fit c = fits_so _ _ _ c.args.self.now.fits

pub loop-g-init : goal.loop-g-init
loop-g-init c = swept_start _ _ _ (known_below c.args.work.now c.type_inv.work)

pub overflow_add-g : goal.overflow_add-g
overflow_add-g c = omega (arith, fit (goal.at.overflow_add-g c).Start, c.loop-g-test.true)

pub returns-then-u-g : goal.returns-then-u-g
returns-then-u-g c =
    let g = c.group_any-u in
    let e = swept_stop c.args.self.now.key c.args.self.now.slots.now c.args.work.now _ _ _ _ c.loop-g.invariant g.ensures c.if-u-g.true g.auto.work (known_below g.new.work c.type_inv.work) in
    record { stop = e.0; left = e.1 }

pub loop-g-preserved : goal.loop-g-preserved
loop-g-preserved c =
    let g = c.group_any-u in
    swept_on c.args.self.now.key c.args.self.now.slots.now c.args.work.now _ _ _ _ c.loop-g.invariant g.ensures c.if-u-g.false g.auto.work (known_below g.new.work c.type_inv.work)

pub overflow_mul-result : goal.overflow_mul-result
overflow_mul-result c = omega (arith, fit (goal.at.overflow_mul-result c).Start)

pub returns : goal.returns
returns c =
    let key = c.args.self.now.key in
    let slots = c.args.self.now.slots.now in
    let before = c.args.work.now in
    let e : (8 * key ≡ (pass_of key slots before).stop) × (c.loop-g-test.work ≡ bytes (length before) (pass_of key slots before).vector) = elim c.loop-g-test.branch [
      | else-loop-g-test w ↦ rw w.work-is (swept_end key slots before c.loop-g.work c.loop-g.g c.loop-g.invariant (omega arith))
      | then-loop-g-test+else-u-g+else-g-end-g-gt8 w ↦
          let on = swept_on key slots before c.loop-g.work w.group_any-u.new.work c.loop-g.g w.group_any-u.result c.loop-g.invariant w.group_any-u.ensures w.if-u-g.false w.group_any-u.auto.work (search (rules, known_below)) in
          rw w.work-is (swept_end key slots before w.group_any-u.new.work (c.loop-g.g + 8) on (omega arith))
    ] in
    record { stop = e.0; left = e.1 }
