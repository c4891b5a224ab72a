-- The number of kept rows after a row, where it fits.
-- Assumes nothing.
use mathlib.Core.Path.{◌≡◌}
use Prim.Native.Nat.{ℕ, ◌+◌, ◌%◌, ◌^◌, ◌<◌}
use native.Mathlib.Nat.{mod-eq_of_lt}
use native.Mathlib.Omega.{arith}
use Rattle.absorb.specs.declared.Absorbed.{Absorbed}
use Rattle.absorb.specs.declared.Absorbed.TheVariants as absorbed
use Rattle.echelon.specs.Eliminating.{rank_after}

pub ranked_small : (a : Absorbed) (r : ℕ) → r + 1 < 2 ^ 64 → rank_after a r % 2 ^ 64 ≡ rank_after a r
unfolding rank_after
ranked_small absorbed.Kept r h = mod-eq_of_lt (omega (arith, h))
ranked_small absorbed.Other r h = mod-eq_of_lt (omega (arith, h))
ranked_small absorbed.Misfit r h = mod-eq_of_lt (omega (arith, h))
