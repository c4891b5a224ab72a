-- Laws of the sum that the digits of a number name: it respects sums, and any map that does is one, by what it gives at each digit.
-- Assumes nothing.
use mathlib.Core.Path.{◌≡◌, refl, sym, ap, ap₂, ◌∙◌}
use Prim.Native.Nat.{ℕ, zero, suc, ◌+◌, ◌*◌, ◌/◌, ◌%◌, ◌^◌, ◌≤◌, ◌<◌}
use native.Mathlib.Nat.{mod-lt, zero-lt-suc, pow-suc, zero-mul, one-mul}
use native.Mathlib.Omega.{arith}
use mathlib.Core.List.{List, [], ◌∷◌}
use lib.Bits.{xor_shifted}
use lib.Arith.{lt-one}
use lib.Pow.{pow_pos, field, mod-mod-pow}
use lib.ListN.{length, get_or}
use Rattle.space.specs.Space.{◌⊕◌, sum_by}
use Rattle.space.specs.Lists.{Below, tabulate}
use Rattle.space.proofs.Lists.{tabulate_ext}
use Rattle.space.proofs.Xor.{⊕_comm, ⊕_self, zero_⊕, ⊕_zero, ⊕_half, ⊕_odd, ⊕_lt, ⊕_four, digit-⊕, shl_⊕}

pub sum_by-⊕ : (ks : List ℕ) (a b : ℕ) → sum_by ks (a ⊕ b) ≡ sum_by ks a ⊕ sum_by ks b
unfolding sum_by
sum_by-⊕ [] a b = sym (zero_⊕ 0)
sum_by-⊕ (v ∷ ks) a b =
    rw ⊕_odd (rw ⊕_half (rw (digit-⊕ (a % 2) (b % 2) v (mod-lt a (zero-lt-suc 1)) (mod-lt b (zero-lt-suc 1)))
    (rw (sum_by-⊕ ks (a / 2) (b / 2)) (⊕_four (a % 2 * v) (b % 2 * v) (sum_by ks (a / 2)) (sum_by ks (b / 2))))))

pub sum_by_zero : (ks : List ℕ) → sum_by ks 0 ≡ 0
unfolding sum_by
sum_by_zero [] = refl
sum_by_zero (v ∷ ks) = rw (zero-mul v) (zero_⊕ (sum_by ks 0) ∙ sum_by_zero ks)

digit_le : (d v : ℕ) → d < 2 → d * v ≤ v
digit_le zero v h = omega arith
digit_le (suc zero) v h = omega arith
digit_le (suc (suc d)) v h = absurd (omega arith)

pub sum_by_lt : (k : ℕ) (ks : List ℕ) → Below (2 ^ k) ks → (x : ℕ) → sum_by ks x < 2 ^ k
unfolding sum_by
sum_by_lt k [] b x = pow_pos k
sum_by_lt k (v ∷ ks) b x =
    ⊕_lt k (x % 2 * v) (sum_by ks (x / 2)) (omega (arith, digit_le (x % 2) v (mod-lt x (zero-lt-suc 1)), b.0)) (sum_by_lt k ks b.1 (x / 2))

-- the digit worth 2^k names the vector at place k
pub sum_by_unit : (ks : List ℕ) (k : ℕ) → k < length ks → sum_by ks (2 ^ k) ≡ get_or ks k 0
unfolding sum_by
sum_by_unit [] k h = absurd (omega arith)
sum_by_unit (v ∷ ks) zero h = rw (sum_by_zero ks) (⊕_zero (1 * v) ∙ omega arith)
sum_by_unit (v ∷ ks) (suc k) h = rw half (rw odd (rw (zero-mul v) (zero_⊕ (sum_by ks (2 ^ k)) ∙ sum_by_unit ks k (omega arith))))
  where
    half : 2 ^ suc k / 2 ≡ 2 ^ k
    half = omega (arith, pow-suc 2 k)

    odd : 2 ^ suc k % 2 ≡ 0
    odd = omega (arith, pow-suc 2 k)

-- digits past the last vector name nothing
pub sum_by_low : (ks : List ℕ) (x : ℕ) → sum_by ks (x % 2 ^ length ks) ≡ sum_by ks x
unfolding sum_by
sum_by_low [] x = refl
sum_by_low (v ∷ ks) x = ap₂ (λ d x. d * v ⊕ x) odd (ap (sum_by ks) half ∙ sum_by_low ks (x / 2))
  where
    wide : suc (length ks) ≡ length ks + 1
    wide = omega arith

    odd : x % 2 ^ suc (length ks) % 2 ≡ x % 2
    odd = ap (λ (e : ℕ). x % 2 ^ e % 2) wide ∙ mod-mod-pow x (length ks) 1

    half : x % 2 ^ suc (length ks) / 2 ≡ x / 2 % 2 ^ length ks
    half = ap (λ (e : ℕ). x % 2 ^ e / 2) wide ∙ field x (length ks) 1

-- ---- vectors that a map gives

bits_join : (x : ℕ) → x % 2 ⊕ x / 2 * 2 ≡ x
unfolding ◌⊕◌
bits_join x = ⊕_comm (x % 2) (x / 2 * 2) ∙ xor_shifted (x / 2) 1 (x % 2) (mod-lt x (zero-lt-suc 1)) ∙ omega arith

module _ (n : ℕ) (f : ℕ → ℕ) (add : (a b : ℕ) → a < 2 ^ n → b < 2 ^ n → f (a ⊕ b) ≡ f a ⊕ f b) where
  f_zero : f 0 ≡ 0
  f_zero = ap f (sym (zero_⊕ 0)) ∙ add 0 0 (pow_pos n) (pow_pos n) ∙ ⊕_self (f 0)

  f_digit : (d : ℕ) → d < 2 → d * f 1 ≡ f d
  f_digit zero h = zero-mul (f 1) ∙ sym f_zero
  f_digit (suc zero) h = one-mul (f 1)
  f_digit (suc (suc d)) h = absurd (omega arith)

-- what a map that respects sums gives at each digit, it gives everywhere by them
pub sum_by_bits : (n : ℕ) (f : ℕ → ℕ) → ((a b : ℕ) → a < 2 ^ n → b < 2 ^ n → f (a ⊕ b) ≡ f a ⊕ f b) → (x : ℕ) → x < 2 ^ n
    → sum_by (tabulate n (λ k. f (2 ^ k))) x ≡ f x
unfolding sum_by tabulate
sum_by_bits zero f add x h = rw (lt-one h) (sym (f_zero zero f add))
sum_by_bits (suc n) f add x h =
    ap₂ (λ x y. x ⊕ y) (f_digit (suc n) f add (x % 2) (mod-lt x (zero-lt-suc 1)))
    (ap (λ (p : List ℕ). sum_by p (x / 2)) (tabulate_ext n _ _ (λ k j. ap f (pow-suc 2 k))) ∙ sum_by_bits n (λ x. f (x * 2)) half (x / 2) (omega (arith, pow-suc 2 n)))
    ∙ sym (add (x % 2) (x / 2 * 2) (omega (arith, mod-lt x (zero-lt-suc 1), pow-suc 2 n, pow_pos n)) (omega (arith, pow-suc 2 n))) ∙ ap f (bits_join x)
  where
    half : (a b : ℕ) → a < 2 ^ n → b < 2 ^ n → f ((a ⊕ b) * 2) ≡ f (a * 2) ⊕ f (b * 2)
    half a b p q = ap f (shl_⊕ 1 a b) ∙ add (a * 2) (b * 2) (omega (arith, pow-suc 2 n)) (omega (arith, pow-suc 2 n))
