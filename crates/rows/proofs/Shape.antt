-- The range of n and L, from the test of it.
-- Assumes nothing.
use mathlib.Core.Path.{◌≡◌}
use mathlib.Core.Bool.{true, ◌&&◌}
use Prim.Native.Nat.{ℕ}
use lib.Dec.{leb}
use borrow.Author.Tests.{leb-true}
use Rattle.space.proofs.Both.{both}
use Rattle.rows.specs.Rows.{shape}
use Rattle.rows.specs.Range.{InRange}

pub shape_range : (n l : ℕ) → shape n l ≡ true → InRange n l
unfolding shape
shape_range n l s =
    let halves = both (leb 1 n && leb n 64) (leb 1 l && leb l 32) s in
    let of-n = both (leb 1 n) (leb n 64) halves.0 in
    let of-l = both (leb 1 l) (leb l 32) halves.1 in
    record {
      n_low = leb-true 1 n of-n.0;
      n_high = leb-true n 64 of-n.1;
      l_low = leb-true 1 l of-l.0;
      l_high = leb-true l 32 of-l.1;
    }
