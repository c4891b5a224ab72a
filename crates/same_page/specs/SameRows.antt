-- When two lists have the same rows, in whatever order.
use Rattle.std.specs.Prelude.{ℕ, ◌≡◌, length}
use mathlib.Core.List.{List, Memᴰ}

-- As many rows, and each has all rows of the other.
pub record SameRows (ps qs : List ℕ) : Type 0 where
  pub size : length ps ≡ length qs
  pub there : (r : ℕ) → Memᴰ r ps → Memᴰ r qs
  pub back : (r : ℕ) → Memᴰ r qs → Memᴰ r ps
