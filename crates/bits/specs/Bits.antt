-- The first and the last set bit of a number of 64 bits.
use Rattle.std.specs.Prelude.{ℕ, ◌≡◌, ◌-◌, ◌^◌, ◌<◌}
use Rattle.std.specs.Int.Count.{count_leading_zeros, count_trailing_zeros}

-- The index of the highest set bit; 0 where none is set.
unfoldable pub highest : ℕ → ℕ
highest x = 63 - count_leading_zeros 64 x

-- The index of the lowest set bit; 64 where none is set.
unfoldable pub lowest : ℕ → ℕ
lowest x = count_trailing_zeros 64 x

-- A bit is the lowest that is set, and what is left of the number is the rest of it.
pub record TakesLowest (x bit rest : ℕ) : Type 0 where
  pub some : 0 < x
  pub lowest_is : bit ≡ lowest x
  pub rest_is : rest ≡ x - 2 ^ lowest x
