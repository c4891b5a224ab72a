-- Parts of a run of bytes, and the numbers read from its front.
-- Assumes nothing.
use mathlib.Core.Path.{◌≡◌, refl, sym, ap}
use Prim.Native.Nat.{ℕ, zero, suc, ◌+◌, ◌-◌, ◌*◌, ◌≤◌, ◌<◌}
use native.Mathlib.Nat.{mul-le-mul_right, suc-mul}
use native.Mathlib.Omega.{arith}
use mathlib.Core.List.{List, [], ◌∷◌}
use lib.ListN.{length, take, drop, length-drop}
use lib.Seq.{take-take, take-nil, length-take-le}
use Rattle.octets.specs.Octets.{number, numbers}

-- one of n parts of w bytes lies within the run
pub part_room : (w n j : ℕ) (bs : List ℕ) → n * w ≤ length bs → j < n → j * w + w ≤ length bs
part_room w n j bs r h = omega (arith, mul-le-mul_right w h, suc-mul j w)

pub length_part : (w at : ℕ) (bs : List ℕ) → at + w ≤ length bs → length (take w (drop at bs)) ≡ w
length_part w at bs h = length-take-le w (drop at bs) (omega (arith, length-drop at bs))

-- what lies behind the run does not count
pub drop-take : (k w : ℕ) (bs : List ℕ) → drop w (take k bs) ≡ take (k - w) (drop w bs)
drop-take k zero bs = let e : k - 0 ≡ k = omega arith in rw e
drop-take zero (suc w) bs = let e : 0 - suc w ≡ 0 = omega arith in rw e
drop-take (suc k) (suc w) [] = let e : suc k - suc w ≡ k - w = omega arith in rw e (sym (take-nil (k - w)))
drop-take (suc k) (suc w) (x ∷ bs) = let e : suc k - suc w ≡ k - w = omega arith in rw e (drop-take k w bs)

pub numbers-take : (w n k : ℕ) (bs : List ℕ) → n * w ≤ k → numbers w n (take k bs) ≡ numbers w n bs
unfolding numbers
numbers-take w zero k bs h = refl
numbers-take w (suc n) k bs h =
    let l : w ≤ k = omega arith in
    rw (take-take w k bs l, drop-take k w bs) (ap (λ (t : List ℕ). number (take w bs) ∷ t) (numbers-take w n (k - w) (drop w bs) (omega arith)))

-- the first ones
pub take-numbers : (w k n : ℕ) (bs : List ℕ) → k ≤ n → take k (numbers w n bs) ≡ numbers w k bs
unfolding numbers
take-numbers w zero n bs h = refl
take-numbers w (suc k) zero bs h = absurd (omega arith)
take-numbers w (suc k) (suc n) bs h = ap (λ (t : List ℕ). number (take w bs) ∷ t) (take-numbers w k n (drop w bs) (omega arith))
