-- The numbers of the layout: the slots end where the uses begin.
-- Assumes nothing.
use mathlib.Core.Path.{◌≡◌, refl}
use Prim.Native.Nat.{ℕ, ◌+◌, ◌*◌, ◌≤◌, ◌<◌}
use native.Mathlib.Nat.{mul-le-mul_right, suc-mul}
use native.Mathlib.Omega.{arith}
use Rattle.filter.specs.Filter.{filter_bytes}
use Rattle.tally.specs.Tally.{most_kept, tail_bytes}
use Rattle.state.specs.Layout.{vector_bytes, uses_at, places_at, heads_at, order_at, filter_at, state_bytes}

pub sizes : (most_kept ≡ 320) × (tail_bytes ≡ 40) × (vector_bytes ≡ 80) × (uses_at ≡ 25600) × (places_at ≡ 26240) × (heads_at ≡ 27264) × (order_at ≡ 29824) × (filter_at ≡ 30848)
    × (state_bytes ≡ 31872) × (filter_bytes ≡ 1024)
unfolding most_kept tail_bytes vector_bytes uses_at places_at heads_at order_at filter_at state_bytes filter_bytes
sizes = (refl, refl, refl, refl, refl, refl, refl, refl, refl, refl)

-- the slots of rows of at most 40 bytes end where the uses begin
pub slots_end : (key : ℕ) → key ≤ 40 → 8 * key * vector_bytes ≤ uses_at
slots_end key h = let a : 8 * key ≤ 320 = omega arith in omega (arith, mul-le-mul_right vector_bytes a, sizes)

pub slot_end : (t : ℕ) → t < most_kept → t * vector_bytes + vector_bytes ≤ uses_at
unfolding most_kept
slot_end t l = omega (arith, mul-le-mul_right vector_bytes l, suc-mul t vector_bytes, sizes)
