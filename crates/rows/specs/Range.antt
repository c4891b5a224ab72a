-- The range of n and L, as four bounds.
use Rattle.std.specs.Prelude.{ℕ, ◌≤◌}

-- "n is 1 to 64, L is 1 to 32".
pub record InRange (n l : ℕ) : Type 0 where
  pub n_low : 1 ≤ n
  pub n_high : n ≤ 64
  pub l_low : 1 ≤ l
  pub l_high : l ≤ 32
