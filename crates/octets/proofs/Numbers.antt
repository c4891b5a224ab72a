-- One number and its bytes: there and back, sums, and bytes side by side.
-- Assumes nothing.
use mathlib.Core.Path.{◌≡◌, refl, sym, ap, ap₂, ◌∙◌}
use Prim.Native.Nat.{ℕ, zero, suc, ◌+◌, ◌*◌, ◌/◌, ◌%◌, ◌^◌, ◌<◌}
use native.Mathlib.Nat.{mod-lt, add-mul, mul_assoc, mod-eq_of_lt, le-mul_of_pos_right}
use native.Mathlib.Omega.{arith}
use mathlib.Core.List.{List, [], ◌∷◌, ◌++◌}
use lib.Bits.{xor_block, xor_shr, xor_mod}
use lib.Pow.{pow_pos, pow-add, high, low, mod-pow-add, field, mod-mod-pow}
use lib.Arith.{digits_lt}
use lib.ListN.{length, length-append}
use lib.Dec.{lit<}
use Rattle.space.specs.Space.{◌⊕◌}
use Rattle.space.specs.Lists.{Below}
use Rattle.octets.specs.Octets.{number, bytes, xor_bytes}
use Rattle.octets.proofs.Xors.{length-xor_bytes}

pub pow8 : (w : ℕ) → 2 ^ (8 * suc w) ≡ 256 * 2 ^ (8 * w)
pow8 w = ap (λ (x : ℕ). 2 ^ x) (omega arith) ∙ pow-add 2 8 (8 * w)

-- ---- the number of bytes

pub number_lt : (a : List ℕ) → Below 256 a → number a < 2 ^ (8 * length a)
unfolding number
number_lt [] b = omega arith
number_lt (x ∷ a) b = rw (pow8 (length a)) (digits_lt b.0 (number_lt a b.1))

pub number-⊕ : (a c : List ℕ) → length a ≡ length c → Below 256 a → Below 256 c → number (xor_bytes a c) ≡ number a ⊕ number c
unfolding number xor_bytes ◌⊕◌
number-⊕ [] [] e b d = refl
number-⊕ [] (y ∷ c) e b d = absurd (omega arith)
number-⊕ (x ∷ a) [] e b d = absurd (omega arith)
number-⊕ (x ∷ a) (y ∷ c) e b d =
    let same : length c ≡ length a = omega arith in
    rw (length-xor_bytes a c (sym same)) (rw same (rw (number-⊕ a c (sym same) b.1 d.1)
    (sym (xor_block (8 * length a) x y (number a) (number c) (number_lt a b.1) (rw same at (number_lt c d.1))))))

pub number_append : (a b : List ℕ) → number (a ++ b) ≡ number a * 2 ^ (8 * length b) + number b
unfolding number
number_append [] b = omega arith
number_append (x ∷ a) b =
    rw (number_append a b) (rw (length-append a b) (rw expand
    (omega (arith, add-mul (x * 2 ^ (8 * length a)) (number a) (2 ^ (8 * length b)), mul_assoc x (2 ^ (8 * length a)) (2 ^ (8 * length b))))))
  where
    expand : 2 ^ (8 * (length a + length b)) ≡ 2 ^ (8 * length a) * 2 ^ (8 * length b)
    expand = ap (λ (e : ℕ). 2 ^ e) (omega arith) ∙ pow-add 2 (8 * length a) (8 * length b)

-- ---- the bytes of a number

pub length-bytes : (w x : ℕ) → length (bytes w x) ≡ w
unfolding bytes
length-bytes zero x = refl
length-bytes (suc w) x = ap suc (length-bytes w x)

pub bytes_below : (w x : ℕ) → Below 256 (bytes w x)
unfolding bytes
bytes_below zero x = tt
bytes_below (suc w) x = (mod-lt (x / 2 ^ (8 * w)) (lit< tt), bytes_below w x)

pub bytes-⊕ : (w a b : ℕ) → bytes w (a ⊕ b) ≡ xor_bytes (bytes w a) (bytes w b)
unfolding bytes xor_bytes ◌⊕◌
bytes-⊕ zero a b = refl
bytes-⊕ (suc w) a b =
    ap₂ (λ x t. x ∷ t) (ap (λ (x : ℕ). x % 256) (xor_shr a b (8 * w)) ∙ xor_mod (a / 2 ^ (8 * w)) (b / 2 ^ (8 * w)) 8) (bytes-⊕ w a b)

-- ---- there and back

pub number-bytes_mod : (w x : ℕ) → number (bytes w x) ≡ x % 2 ^ (8 * w)
unfolding number bytes
number-bytes_mod zero x = omega (arith, mod-lt x (lit< {m = 0} {n = 1} tt))
number-bytes_mod (suc w) x = rw (length-bytes w x) (rw (number-bytes_mod w x) (sym (ap (λ (e : ℕ). x % 2 ^ e) eight ∙ mod-pow-add x 8 (8 * w))))
  where
    eight : 8 * suc w ≡ 8 + 8 * w
    eight = omega arith

pub number-bytes : (w x : ℕ) → x < 2 ^ (8 * w) → number (bytes w x) ≡ x
number-bytes w x h = number-bytes_mod w x ∙ mod-eq_of_lt h

-- what stands above the w bytes does not count
pub bytes_mod : (w k x : ℕ) → bytes w (x % 2 ^ (8 * (k + w))) ≡ bytes w x
unfolding bytes
bytes_mod zero k x = refl
bytes_mod (suc w) k x = ap₂ (λ y t. y ∷ t) first (ap (λ (e : ℕ). bytes w (x % 2 ^ e)) next ∙ bytes_mod w (suc k) x)
  where
    wide : 8 * (k + suc w) ≡ (8 * k + 8) + 8 * w
    wide = omega arith

    next : 8 * (k + suc w) ≡ 8 * (suc k + w)
    next = omega arith

    first : x % 2 ^ (8 * (k + suc w)) / 2 ^ (8 * w) % 256 ≡ x / 2 ^ (8 * w) % 256
    first =
        ap (λ (e : ℕ). x % 2 ^ e / 2 ^ (8 * w) % 256) wide ∙ ap (λ (y : ℕ). y % 256) (field x (8 * k + 8) (8 * w))
        ∙ mod-mod-pow (x / 2 ^ (8 * w)) (8 * k) 8

pub bytes-number : (a : List ℕ) → Below 256 a → bytes (length a) (number a) ≡ a
unfolding number bytes
bytes-number [] b = refl
bytes-number (x ∷ a) b = ap₂ (λ y t. y ∷ t) first (rest ∙ bytes-number a b.1)
  where
    whole : ℕ
    whole = x * 2 ^ (8 * length a) + number a

    first : whole / 2 ^ (8 * length a) % 256 ≡ x
    first = rw (high x (8 * length a) (number_lt a b.1)) (mod-eq_of_lt b.0)

    rest : bytes (length a) whole ≡ bytes (length a) (number a)
    rest =
        sym (bytes_mod (length a) 0 whole) ∙ ap (λ (e : ℕ). bytes (length a) (whole % 2 ^ (8 * e))) (omega arith)
        ∙ ap (bytes (length a)) (low x (8 * length a) (number_lt a b.1))

-- ---- no byte is set

pub number_zero : (a : List ℕ) → Below 1 a → number a ≡ 0
unfolding number
number_zero [] b = refl
number_zero (x ∷ a) b =
    let none : x ≡ 0 = omega (arith, b.0) in
    rw none (omega (arith, number_zero a b.1))

pub zero_number : (a : List ℕ) → number a ≡ 0 → Below 1 a
unfolding number
zero_number [] e = tt
zero_number (x ∷ a) e = (omega (arith, le-mul_of_pos_right x (pow_pos (8 * length a))), zero_number a (omega arith))
