-- The bytes of a number one by one and side by side: one more behind, the one at an index, the first and the last of them, and zero.
-- Assumes nothing.
use mathlib.Core.Path.{◌≡◌, refl, sym, ap, ap₂, ◌∙◌}
use Prim.Native.Nat.{ℕ, zero, suc, ◌+◌, ◌-◌, ◌*◌, ◌/◌, ◌%◌, ◌^◌, ◌≤◌, ◌<◌}
use native.Mathlib.Nat.{zero-add, suc-add, zero-div, one-mul, lt_of_not-le, not-le_of_lt}
use native.Mathlib.Numerals.{add-one}
use native.Mathlib.Omega.{arith}
use mathlib.Core.List.{List, [], ◌∷◌, ◌++◌}
use lib.Bits.{bit_or, or_shifted}
use lib.Dec.{lit<}
use lib.Pow.{shr-shr, shl_exact, pow_mono, mod-pow-add, high, low}
use lib.ListN.{length, take, drop, get_or, replicate, length-drop, take-append-drop}
use lib.Seq.{take-suc}
use Rattle.space.specs.Lists.{Below}
use Rattle.octets.specs.Octets.{number, bytes}
use Rattle.octets.proofs.Numbers.{number_append, number_lt}
use Rattle.octets.proofs.Runs.{below_parts}

-- ---- behind: the number of one byte more

pub number_more : (bs : List ℕ) (i : ℕ) → i < length bs → number (take (i + 1) bs) ≡ number (take i bs) * 256 + get_or bs i 0
unfolding number
number_more bs i h = rw (add-one, take-suc bs i 0 h) (number_append (take i bs) (get_or bs i 0 ∷ []) ∙ omega arith)

-- a byte shifted in, in a word of 64 bits
pub shift_in : (x b : ℕ) → b < 256 → bit_or (x * 256 % 2 ^ 64) b ≡ (x * 256 + b) % 2 ^ 64
shift_in x b h =
    let up : x * 256 % 2 ^ 64 ≡ x % 2 ^ 56 * 2 ^ 8 = omega arith in
    rw up (or_shifted (x % 2 ^ 56) 8 b h ∙ sym (mod-pow-add (x * 2 ^ 8 + b) 56 8 ∙ rw (high x 8 h, low x 8 h)))

pub word_more : (bs : List ℕ) (i x : ℕ) → i < length bs → get_or bs i 0 < 256 → x ≡ number (take i bs) % 2 ^ 64
    → bit_or (x * 256 % 2 ^ 64) (get_or bs i 0) ≡ number (take (i + 1) bs) % 2 ^ 64
word_more bs i x h b e = rw (number_more bs i h) (shift_in x (get_or bs i 0) b ∙ omega arith)

-- ---- in front: the byte at an index

pub get_or-bytes : (w x i : ℕ) → i < w → get_or (bytes w x) i 0 ≡ x / 2 ^ (8 * (w - (i + 1))) % 256
unfolding bytes
get_or-bytes zero x i h = absurd (omega arith)
get_or-bytes (suc w) x zero h = ap (λ (k : ℕ). x / 2 ^ (8 * k) % 256) (omega arith)
get_or-bytes (suc w) x (suc i) h = get_or-bytes w x i (omega arith) ∙ ap (λ (k : ℕ). x / 2 ^ (8 * k) % 256) (omega arith)

-- what is left once one byte more is written
pub rest_more : (x k : ℕ) → x / 2 ^ (8 * k) / 256 ≡ x / 2 ^ (8 * (k + 1))
rest_more x k = shr-shr x (8 * k) 8 ∙ ap (λ (e : ℕ). x / 2 ^ e) (omega arith)

-- ---- side by side

pub bytes-append : (v w x : ℕ) → bytes (v + w) x ≡ bytes v (x / 2 ^ (8 * w)) ++ bytes w x
unfolding bytes
bytes-append zero w x = ap (λ (k : ℕ). bytes k x) (zero-add w)
bytes-append (suc v) w x =
    rw (suc-add v w) (ap₂ (λ y t. y ∷ t) (ap (λ (y : ℕ). y % 256) (sym (shr-shr x (8 * w) (8 * v) ∙ ap (λ (e : ℕ). x / 2 ^ e) (omega arith)))) (bytes-append v w x))

-- the number of the first bytes, and of those from an index on
module _ (k w : ℕ) (bs : List ℕ) (b : Below 256 bs) (e : length bs ≡ k + w) where
  size : length (drop k bs) ≡ w
  size = length-drop k bs ∙ omega arith

  small : number (drop k bs) < 2 ^ (8 * w)
  small = rw size at (number_lt (drop k bs) (below_parts 256 k bs b).1)

  number_parts : number bs ≡ number (take k bs) * 2 ^ (8 * w) + number (drop k bs)
  number_parts =
      ap number (sym (take-append-drop k bs)) ∙ number_append (take k bs) (drop k bs)
      ∙ ap (λ (j : ℕ). number (take k bs) * 2 ^ (8 * j) + number (drop k bs)) size

  pub number-front : number bs / 2 ^ (8 * w) ≡ number (take k bs)
  number-front = rw number_parts (high (number (take k bs)) (8 * w) small)

  pub number-back : number bs % 2 ^ (8 * w) ≡ number (drop k bs)
  number-back = rw number_parts (low (number (take k bs)) (8 * w) small)

-- ---- zero

pub bytes_zero : (w : ℕ) → bytes w 0 ≡ replicate w 0
unfolding bytes
bytes_zero zero = refl
bytes_zero (suc w) = ap₂ (λ y t. y ∷ t) (ap (λ (y : ℕ). y % 256) (zero-div (2 ^ (8 * w)))) (bytes_zero w)

-- ---- one bit of a word

-- 1 << n, in a word of w bits
pub one_shl : (n w : ℕ) → n < w → 1 * 2 ^ n % 2 ^ w ≡ 2 ^ n
one_shl n w h = shl_exact {a = 1} 1 n w (lit< tt) (omega arith) ∙ one-mul (2 ^ n)

-- a power of two below another
pub pow_lt_inv : (i j : ℕ) → 2 ^ i < 2 ^ j → i < j
pow_lt_inv i j h = lt_of_not-le (λ (k : j ≤ i). not-le_of_lt h (pow_mono k))
