-- How long the rows of a store are.
-- Assumes nothing.
use Prim.Native.Nat.{ℕ, ◌*◌, ◌≤◌}
use native.Mathlib.Nat.{mul-le-mul}
use native.Mathlib.Omega.{arith}
use Rattle.places.specs.Places.{most_rows}
use Rattle.rows.specs.Rows.{list_row_bytes}

-- the rows of the widest list
pub rows-size : (l rows : ℕ) → l ≤ 32 → rows ≤ most_rows → list_row_bytes l * rows ≤ 22528
rows-size l rows narrow few =
    let width : list_row_bytes l ≤ 44 = omega arith in
    omega (arith, mul-le-mul width few)
