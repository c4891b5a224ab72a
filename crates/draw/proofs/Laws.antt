-- What the definitions of a draw mean: sums, differences and rotations; that a drawn constraint names at least one symbol and none
-- beyond the page; which n are refused; and that the contract allows one answer. Assumes nothing.
use Rattle.std.proofs.Common.{◌≡◌, ℕ, ◌+◌, ◌-◌, ◌*◌, ◌%◌, ◌^◌, ◌<◌, ◌≤◌, Bool, true, false, cond, eqb, Option, Some, None, ◌⊎◌, sym, refl, ◌∙◌, ⊎_elim, mod-lt, pos_of_ne-zero, arith, pow_pos, le-leb}
use borrow.Author.Tests.{lt-leb, eqb-false}
use lib.Pow.{pow-lt, high as high-of, low as low_of}
use Rattle.draw.specs.Draw.{sum, difference, rot, settled, two_draws, constraint, in_range, drawn, number_of, constraint_of}
use Rattle.draw.proofs.Shifts.{shl_field}
use Rattle.draw.proofs.draw.Reads as draw

-- ---- the generator's words

-- A difference is the one number that the sum takes back.
pub sum-difference : (x y : ℕ) → x < 2 ^ 32 → y < 2 ^ 32 → sum (difference x y) y ≡ x
unfolding sum difference
sum-difference x y hx hy = omega arith

pub difference_only : (x y e : ℕ) → y < 2 ^ 32 → e < 2 ^ 32 → sum e y ≡ x → e ≡ difference x y
unfolding sum difference
difference_only x y e hy he h = omega arith

-- A rotation by k puts the k high bits below the j others.
pub rot_halves : (high low j k : ℕ) → j + k ≡ 32 → low < 2 ^ j → rot (high * 2 ^ j + low) k ≡ low * 2 ^ k + high
unfolding rot
rot_halves high low j k width h =
    let others : 32 - k ≡ j = omega arith in
    rw (others, rw width at (shl_field (high * 2 ^ j + low) j k), low_of high j h, high-of high j h)

-- ---- the constraint

module _ (n seed : ℕ) where
  abbrev left : ℕ
  left = two_draws (settled seed) % 2 ^ n

  pub drawn_below : 1 ≤ n → constraint n seed < 2 ^ n
  unfolding constraint
  drawn_below some = go (eqb left 0)
    where
      go : (b : Bool) → cond b (2 ^ (seed % n)) left < 2 ^ n
      go true = pow-lt (mod-lt seed some)
      go false = mod-lt (two_draws (settled seed)) (pow_pos n)

  pub drawn_nonzero : 0 < constraint n seed
  unfolding constraint
  drawn_nonzero = go (eqb left 0) refl
    where
      go : (b : Bool) → eqb left 0 ≡ b → 0 < cond b (2 ^ (seed % n)) left
      go true e = pow_pos (seed % n)
      go false e = pos_of_ne-zero (eqb-false left 0 e)

-- ---- the answer

-- "n is 1 to 64".
module _ (n seed : ℕ) (some : 1 ≤ n) (most : n ≤ 64) where
  pub drawn-inside : drawn n seed ≡ Some (constraint n seed)
  unfolding drawn in_range
  drawn-inside = rw (le-leb 1 n some, le-leb n 64 most)

  pub inside-numbers : (number_of (drawn n seed) ≡ 0) × (constraint_of (drawn n seed) ≡ constraint n seed)
  unfolding number_of constraint_of
  inside-numbers = rw drawn-inside (refl, refl)

-- "Drawing on its own with n out of range is refused as 1, constraint 0."
module _ (n seed : ℕ) (out : (n < 1) ⊎ (64 < n)) where
  pub drawn-outside : drawn n seed ≡ None
  unfolding drawn in_range
  drawn-outside = ⊎_elim (λ h. rw (lt-leb 1 n h)) (λ h. rw (le-leb 1 n (omega arith), lt-leb n 64 h)) out

  pub outside-numbers : (number_of (drawn n seed) ≡ 1) × (constraint_of (drawn n seed) ≡ 0)
  unfolding number_of constraint_of
  outside-numbers = rw drawn-outside (refl, refl)

-- ---- uniqueness

-- An answer that the contract of `draw` allows.
abbrev pub Allowed : ℕ → ℕ → Option ℕ → Type 0
Allowed n seed r = draw.Post tt (n, (seed, tt)) r (n, (seed, tt))

pub draw_unique : (n seed : ℕ) (r s : Option ℕ) → Allowed n seed r → Allowed n seed s → r ≡ s
draw_unique n seed r s p q = p ∙ sym q
