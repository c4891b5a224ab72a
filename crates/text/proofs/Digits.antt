-- Laws of digits and of their pairs.
-- Assumes nothing.
use mathlib.Core.Path.{◌≡◌, refl}
use Prim.Native.Nat.{ℕ, zero, suc, ◌+◌, ◌-◌, ◌*◌, ◌/◌, ◌≤◌, ◌<◌}
use native.Mathlib.Omega.{arith}
use mathlib.Core.Bool.{Bool, true, false, cond, ◌&&◌, and-false, false≢true}
use mathlib.Core.Logic.{◌⊎◌, inl, inr}
use mathlib.Core.List.{List, [], ◌∷◌}
use lib.Dec.{leb}
use lib.ListN.{length, get_or}
use borrow.Author.Tests.{le-leb, lt-leb, leb-true}
use Rattle.std.proofs.Common.{None, Some, is_some}
use Rattle.text.specs.Hex.{within, digit, worth, all_digits, pairs}

-- ---- a digit

inside : (least most c : ℕ) → least ≤ c → c ≤ most → within least most c ≡ true
unfolding within
inside least most c h k = rw (le-leb least c h, le-leb c most k)

outside : (least most c : ℕ) → (c < least) ⊎ (most < c) → within least most c ≡ false
unfolding within
outside least most c (inl h) = rw (lt-leb least c h)
outside least most c (inr h) = rw (lt-leb c most h) (and-false (leb least c))

inside-most : (least most c : ℕ) → within least most c ≡ true → c ≤ most
unfolding within
inside-most least most c e = both (leb least c) e
  where
    both : (b : Bool) → b && leb c most ≡ true → c ≤ most
    both true e = leb-true c most e
    both false e = absurd (false≢true e)

module _ (c : ℕ) where
  pub digit_decimal : 48 ≤ c → c ≤ 57 → digit c ≡ Some (c - 48)
  unfolding digit
  digit_decimal h k = rw (inside 48 57 c h k)

  pub digit_lower : 97 ≤ c → c ≤ 102 → digit c ≡ Some (c - 97 + 10)
  unfolding digit
  digit_lower h k = rw (outside 48 57 c (inr (omega arith)), outside 65 70 c (inr (omega arith)), inside 97 102 c h k)

  pub digit-most : (d : ℕ) → digit c ≡ Some d → d < 16
  unfolding digit
  digit-most d = go (within 48 57 c) refl (within 65 70 c) refl (within 97 102 c) refl
    where
      go : (p : Bool) → within 48 57 c ≡ p → (q : Bool) → within 65 70 c ≡ q → (r : Bool) → within 97 102 c ≡ r
          → cond p (Some (c - 48)) (cond q (Some (c - 65 + 10)) (cond r (Some (c - 97 + 10)) None)) ≡ Some d → d < 16
      go true e q f r g h = let k : c - 48 ≡ d = cc in omega (arith, inside-most 48 57 c e)
      go false e true f r g h = let k : c - 65 + 10 ≡ d = cc in omega (arith, inside-most 65 70 c f)
      go false e false f true g h = let k : c - 97 + 10 ≡ d = cc in omega (arith, inside-most 97 102 c g)
      go false e false f false g h = absurd (cc)

-- what a digit is worth
pub worth_digit : (c d : ℕ) → digit c ≡ Some d → worth c ≡ d
unfolding worth
worth_digit c d e = rw e

-- ---- the digits of a line

pub digits_cons : (c : ℕ) (line : List ℕ) → all_digits (c ∷ line) ≡ true → (is_some (digit c) ≡ true) × (all_digits line ≡ true)
unfolding all_digits
digits_cons c line e = go (is_some (digit c)) e
  where
    go : (b : Bool) → b && all_digits line ≡ true → (b ≡ true) × (all_digits line ≡ true)
    go true e = (refl, e)
    go false e = absurd (false≢true e)

pub digits_at : (line : List ℕ) (i : ℕ) → all_digits line ≡ true → i < length line → is_some (digit (get_or line i 0)) ≡ true
digits_at [] i e h = absurd (omega arith)
digits_at (c ∷ line) zero e h = (digits_cons c line e).0
digits_at (c ∷ line) (suc i) e h = digits_at line i (digits_cons c line e).1 (omega arith)

-- ---- pairs

pub length_pairs : (line : List ℕ) → length (pairs line) ≡ length line / 2
unfolding pairs
length_pairs [] = refl
length_pairs (high ∷ []) = refl
length_pairs (high ∷ low ∷ line) = omega (arith, length_pairs line)

pub pairs_at : (line : List ℕ) (i : ℕ) → i < length line / 2
    → worth (get_or line (2 * i) 0) * 16 + worth (get_or line (2 * i + 1) 0) ≡ get_or (pairs line) i 0
unfolding pairs
pairs_at [] i h = absurd (omega arith)
pairs_at (high ∷ []) i h = absurd (omega arith)
pairs_at (high ∷ low ∷ line) zero h = refl
pairs_at (high ∷ low ∷ line) (suc i) h =
    let e : 2 * suc i ≡ suc (suc (2 * i)) = omega arith in
    let f : suc (suc (2 * i)) + 1 ≡ suc (suc (2 * i + 1)) = omega arith in
    rw (e, f) (pairs_at line i (omega arith))
