-- What fits `tally`, and the uses afterwards where it does.
-- Assumes nothing.
use mathlib.Core.Path.{◌≡◌, refl}
use mathlib.Core.List.{List}
use Prim.Native.Nat.{ℕ, ◌*◌, ◌≤◌}
use lib.ListN.{length}
use borrow.Author.Tests.{le-leb, eq-eqb}
use Rattle.tally.specs.Tally.{most_kept, tail_bytes, raised_uses, tallies, tallied}

pub sizes : (most_kept ≡ 320) × (tail_bytes ≡ 40)
unfolding most_kept tail_bytes
sizes = (refl, refl)

module _ (r : ℕ) (tail uses : List ℕ) where
  pub tallied_is : r ≤ most_kept → length tail ≡ tail_bytes → length uses ≡ 2 * r → tallied r tail uses ≡ raised_uses r tail uses
  unfolding tallied tallies
  tallied_is a b h = rw (le-leb r most_kept a, eq-eqb (length tail) tail_bytes b, eq-eqb (length uses) (2 * r) h)
