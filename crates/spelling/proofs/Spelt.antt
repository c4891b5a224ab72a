-- Bytes spelt in lower-case digits: what `spell` leaves in each case, and that a line reads back what was spelt.
-- Assumes nothing.
use mathlib.Core.Path.{◌≡◌, refl, ap, ap₂, ◌∙◌}
use Prim.Native.Nat.{ℕ, zero, suc, ◌+◌, ◌*◌, ◌/◌, ◌%◌, ◌≤◌, ◌<◌}
use native.Mathlib.Omega.{arith}
use mathlib.Core.Bool.{Bool, true, false, cond, not}
use mathlib.Core.List.{List, [], ◌∷◌}
use lib.Dec.{ltb}
use lib.ListN.{length, get_or, set}
use borrow.Author.Tests.{lt-ltb, le-ltb, ltb-true, ltb-false}
use Rattle.std.proofs.Common.{None, Some}
use Rattle.space.specs.Lists.{Below}
use Rattle.octets.proofs.Fill.{Filling, filling_more}
use Rattle.text.specs.Hex.{digit, all_digits, pairs, bad}
use Rattle.text.proofs.Digits.{digit_decimal, digit_lower, worth_digit}
use Rattle.text.proofs.Unhexed.{bad-digits}
use Rattle.spelling.specs.Spelling.{letter, spelling, spelt}

-- ---- a digit

module _ (d : ℕ) where
  pub letter_decimal : d < 10 → letter d ≡ 48 + d
  unfolding letter
  letter_decimal h = rw (lt-ltb d 10 h)

  pub letter_lower : 10 ≤ d → letter d ≡ 87 + d
  unfolding letter
  letter_lower h = rw (le-ltb d 10 h)

  -- read back
  pub digit-letter : d < 16 → digit (letter d) ≡ Some d
  digit-letter h = go (ltb d 10) refl
    where
      go : (b : Bool) → ltb d 10 ≡ b → digit (letter d) ≡ Some d
      go true e =
          let low : d < 10 = ltb-true d 10 e in
          rw (letter_decimal low) (digit_decimal (48 + d) (omega arith) (omega arith) ∙ ap Some (omega arith))
      go false e =
          let high : 10 ≤ d = ltb-false d 10 e in
          rw (letter_lower high) (digit_lower (87 + d) (omega arith) (omega arith) ∙ ap Some (omega arith))

-- ---- bytes

pub length-spelling : (bytes : List ℕ) → length (spelling bytes) ≡ 2 * length bytes
unfolding spelling
length-spelling [] = refl
length-spelling (b ∷ bytes) = omega (arith, length-spelling bytes)

pub spelling_at : (bytes : List ℕ) (i : ℕ) → i < length bytes
    → (letter (get_or bytes i 0 / 16) ≡ get_or (spelling bytes) (2 * i) 0) × (letter (get_or bytes i 0 % 16) ≡ get_or (spelling bytes) (2 * i + 1) 0)
unfolding spelling
spelling_at [] i h = absurd (omega arith)
spelling_at (b ∷ bytes) zero h = (refl, refl)
spelling_at (b ∷ bytes) (suc i) h =
    let even : 2 * suc i ≡ suc (suc (2 * i)) = omega arith in
    let odd : suc (suc (2 * i)) + 1 ≡ suc (suc (2 * i + 1)) = omega arith in
    rw (even, odd) (spelling_at bytes i (omega arith))

-- one byte more, as two characters
module _ (bytes old now : List ℕ) (i : ℕ) (fits : length bytes ≤ length old / 2) (h : i < length bytes) where
  pub spelling-more : Filling (spelling bytes) old now (2 * length bytes) (2 * i)
      → Filling (spelling bytes) old (set (set now (2 * i) (letter (get_or bytes i 0 / 16))) (2 * i + 1) (letter (get_or bytes i 0 % 16)))
      (2 * length bytes) (2 * (i + 1))
  spelling-more f =
      let at = spelling_at bytes i h in
      let more = filling_more (spelling bytes) old (2 * length bytes) (length-spelling bytes) (omega arith) in
      let next : 2 * (i + 1) ≡ 2 * i + 1 + 1 = omega arith in
      rw next (more _ (2 * i + 1) (more now (2 * i) f (omega arith) _ at.0) (omega arith) _ at.1)

-- ---- the answer

-- how many characters were written
pub characters_told : (count room k : ℕ) → spelt count room ≡ Some k → k ≡ 2 * count
unfolding spelt
characters_told count room k e = go (ltb (room / 2) count) e
  where
    go : (b : Bool) → cond b None (Some (2 * count)) ≡ Some k → k ≡ 2 * count
    go true e = absurd (cc)
    go false e = cc

-- ---- read back

pub spelling-digits : (bytes : List ℕ) → Below 256 bytes → all_digits (spelling bytes) ≡ true
unfolding spelling all_digits
spelling-digits [] b = refl
spelling-digits (x ∷ bytes) b =
    let high = digit-letter (x / 16) (omega arith) in
    let low = digit-letter (x % 16) (omega arith) in
    rw (high, low) (spelling-digits bytes b.1)

pub pairs-spelling : (bytes : List ℕ) → Below 256 bytes → pairs (spelling bytes) ≡ bytes
unfolding spelling pairs
pairs-spelling [] b = refl
pairs-spelling (x ∷ bytes) b =
    let high = worth_digit _ _ (digit-letter (x / 16) (omega arith)) in
    let low = worth_digit _ _ (digit-letter (x % 16) (omega arith)) in
    ap₂ (λ y t. y ∷ t) (rw (high, low) (omega arith)) (pairs-spelling bytes b.1)

-- What was spelt is a line again, if it isn't too long, and stands for the same bytes.
pub bad-spelling : (bytes : List ℕ) → Below 256 bytes → length bytes ≤ 128 → bad (spelling bytes) ≡ false
bad-spelling bytes b h =
    let size = length-spelling bytes in
    bad-digits (spelling bytes) (omega arith) (omega arith) ∙ ap not (spelling-digits bytes b)
