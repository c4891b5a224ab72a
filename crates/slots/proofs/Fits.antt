-- What fits a pass over slots in bytes, and what `reduce` leaves of it.
-- Assumes nothing.
use mathlib.Core.Path.{◌≡◌}
use Prim.Native.Nat.{ℕ, ◌+◌, ◌*◌, ◌^◌, ◌≤◌, ◌<◌}
use native.Mathlib.Nat.{le_trans, suc-mul, mul-le-mul_right, mul-le-mul_left}
use native.Mathlib.Omega.{arith}
use mathlib.Core.Bool.{true, ◌&&◌}
use mathlib.Core.List.{List}
use lib.Dec.{leb}
use lib.ListN.{length, get_or}
use borrow.Author.Tests.{le-leb, leb-true}
use Rattle.space.proofs.Both.{both}
use Rattle.space.specs.Lists.{Below}
use Rattle.octets.specs.Octets.{bytes}
use Rattle.octets.proofs.Runs.{known_below}
use Rattle.slots.specs.Reducing.{reducible, pass_of, reduce_work}

pub record Fits (key w room : ℕ) : Type 0 where
  pub inside : key ≤ w
  pub small : w ≤ 4096
  pub big : 8 * key * w ≤ room

pub fits_so : (key w room : ℕ) → reducible key w room ≡ true → Fits key w room
unfolding reducible
fits_so key w room e =
    let a : (leb key w ≡ true) × ((leb w 4096 && leb (8 * key * w) room) ≡ true) = both (leb key w) (leb w 4096 && leb (8 * key * w) room) e in
    let b : (leb w 4096 ≡ true) × (leb (8 * key * w) room ≡ true) = both (leb w 4096) (leb (8 * key * w) room) a.1 in
    record { inside = leb-true key w a.0; small = leb-true w 4096 b.0; big = leb-true (8 * key * w) room b.1 }

pub fits_when : (key w room : ℕ) → Fits key w room → reducible key w room ≡ true
unfolding reducible
fits_when key w room F = rw (le-leb key w F.inside) (rw (le-leb w 4096 F.small) (le-leb (8 * key * w) room F.big))

-- bytes, as a struct that has them tells
pub bytes_below : (bs : List ℕ) → ((i : ℕ) → get_or bs i 0 < 256) → Below 256 bs
bytes_below bs h = known_below bs (λ i. record { fits = h i })

-- the product is no longer than a machine's number
pub product_lt : (key w : ℕ) → key ≤ w → w ≤ 4096 → 8 * key * w ≤ 134217728
product_lt key w h l =
    let a : 8 * key ≤ 32768 = omega arith in
    le_trans (mul-le-mul_right w a) (mul-le-mul_left 32768 l)

-- nor is the end of a slot
pub slot_end : (key w room u : ℕ) → Fits key w room → u < 8 * key → u * w + w < 2 ^ 64
slot_end key w room u F h = omega (arith, mul-le-mul_right w h, suc-mul u w, product_lt key w F.inside F.small)

pub swept : (key : ℕ) (slots work : List ℕ) → reducible key (length work) (length slots) ≡ true → bytes (length work) (pass_of key slots work).vector ≡ reduce_work key slots work
unfolding reduce_work
swept key slots work e = rw e
