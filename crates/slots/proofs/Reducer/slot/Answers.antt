-- `slot` meets its contract: each slot of a key ends within the slots.
-- Assumes nothing.
use native.Mathlib.Omega.{arith}
use lib.ListN.{length}
use Prim.Native.Nat.{◌*◌}
use Rattle.octets.proofs.Views.{part_room}
use Rattle.slots.proofs.Fits.{Fits, fits_so, slot_end}
use Rattle.slots.proofs.Reducer.slot.Goals as goal
use Rattle.slots.proofs.Reducer.slot.Goals.{Start}

fit : (c : Start) → Fits c.args.self.now.key c.args.self.now.width (length c.args.self.now.slots.now)
fit c = fits_so _ _ _ c.args.self.now.fits

pub overflow_mul-at : goal.overflow_mul-at
overflow_mul-at c = omega (arith, slot_end _ _ _ c.args.u (fit (goal.at.overflow_mul-at c).Start) c.requires)

pub overflow_add-e : goal.overflow_add-e
overflow_add-e c = omega (arith, slot_end _ _ _ c.args.u (fit (goal.at.overflow_add-e c).Start) c.requires)

pub slice_bounds-result-end : goal.slice_bounds-result-end
slice_bounds-result-end c =
    part_room c.args.self.now.width (8 * c.args.self.now.key) c.args.u c.args.self.now.slots.now (fit (goal.at.slice_bounds-result-end c).Start).big c.requires
