-- Laws of the sum of two vectors, by induction on binary digits.
-- Assumes nothing.
use mathlib.Core.Path.{◌≡◌, refl, sym, ap, ap₂, ◌∙◌}
use Prim.Native.Nat.{ℕ, zero, suc, ◌+◌, ◌*◌, ◌/◌, ◌%◌, ◌^◌, ◌<◌}
use native.Mathlib.Nat.{mod-lt, zero-lt-suc, zero-mul, one-mul, add-zero}
use native.Mathlib.Omega.{arith}
use lib.Arith.{bin_ind, digits_div, digits_mod}
use lib.Bits.{bit_xor, differ, xor_step, xor_comm, xor_self, xor_zero_r, xor_lt, xor_block}
use lib.Pow.{pow_pos}
use lib.Dec.{eqb}
use borrow.Author.Tests.{eqb-true, eqb-false, eq-eqb, ne_eqb}
use mathlib.Core.Bool.{Bool, true, false}
use Rattle.space.specs.Space.{◌⊕◌}

pub ⊕_comm : (a b : ℕ) → a ⊕ b ≡ b ⊕ a
unfolding ◌⊕◌
⊕_comm a b = xor_comm a b

pub ⊕_self : (a : ℕ) → a ⊕ a ≡ 0
unfolding ◌⊕◌
⊕_self a = xor_self a

pub zero_⊕ : (a : ℕ) → 0 ⊕ a ≡ a
unfolding ◌⊕◌
zero_⊕ a = refl

pub ⊕_zero : (a : ℕ) → a ⊕ 0 ≡ a
unfolding ◌⊕◌
⊕_zero a = xor_zero_r a

pub ⊕-step : (a b : ℕ) → a ⊕ b ≡ (a / 2 ⊕ b / 2) * 2 + differ (a % 2) (b % 2)
unfolding ◌⊕◌
⊕-step a b = xor_step a b

differ_lt : (x y : ℕ) → x < 2 → y < 2 → differ x y < 2
differ_lt zero y p q = q
differ_lt (suc zero) zero p q = p
differ_lt (suc zero) (suc y) p q = omega arith
differ_lt (suc (suc x)) y p q = absurd (omega arith)

pub ⊕_half : (a b : ℕ) → (a ⊕ b) / 2 ≡ a / 2 ⊕ b / 2
⊕_half a b = rw (⊕-step a b) (digits_div (a / 2 ⊕ b / 2) (differ_lt (a % 2) (b % 2) (mod-lt a (zero-lt-suc 1)) (mod-lt b (zero-lt-suc 1))))

pub ⊕_odd : (a b : ℕ) → (a ⊕ b) % 2 ≡ differ (a % 2) (b % 2)
⊕_odd a b = rw (⊕-step a b) (digits_mod (a / 2 ⊕ b / 2) (differ_lt (a % 2) (b % 2) (mod-lt a (zero-lt-suc 1)) (mod-lt b (zero-lt-suc 1))))

differ_assoc : (x y z : ℕ) → x < 2 → y < 2 → z < 2 → differ (differ x y) z ≡ differ x (differ y z)
differ_assoc zero y z p q r = refl
differ_assoc (suc zero) zero z p q r = refl
differ_assoc (suc zero) (suc zero) zero p q r = refl
differ_assoc (suc zero) (suc zero) (suc zero) p q r = refl
differ_assoc (suc zero) (suc zero) (suc (suc z)) p q r = absurd (omega arith)
differ_assoc (suc zero) (suc (suc y)) z p q r = absurd (omega arith)
differ_assoc (suc (suc x)) y z p q r = absurd (omega arith)

assoc_step : (a : ℕ) → ((b c : ℕ) → a / 2 ⊕ b ⊕ c ≡ a / 2 ⊕ (b ⊕ c)) → (b c : ℕ) → a ⊕ b ⊕ c ≡ a ⊕ (b ⊕ c)
assoc_step a ih b c =
    ⊕-step (a ⊕ b) c
    ∙ ap₂ (λ (x y : ℕ). x * 2 + y)
    (rw ⊕_half (rw ⊕_half (ih (b / 2) (c / 2))))
    (rw ⊕_odd (rw ⊕_odd (differ_assoc (a % 2) (b % 2) (c % 2) (mod-lt a (zero-lt-suc 1)) (mod-lt b (zero-lt-suc 1)) (mod-lt c (zero-lt-suc 1)))))
    ∙ sym (⊕-step a (b ⊕ c))

pub ⊕_assoc : (a b c : ℕ) → a ⊕ b ⊕ c ≡ a ⊕ (b ⊕ c)
⊕_assoc = bin_ind (λ (a : ℕ). (b c : ℕ) → a ⊕ b ⊕ c ≡ a ⊕ (b ⊕ c)) (λ b c. rw zero_⊕ (rw zero_⊕)) assoc_step

pub ⊕_cancel : (a b : ℕ) → a ⊕ (a ⊕ b) ≡ b
⊕_cancel a b = rw (← ⊕_assoc a a b) (rw ⊕_self (zero_⊕ b))

pub ⊕_cancel_r : (a b : ℕ) → a ⊕ b ⊕ b ≡ a
⊕_cancel_r a b = rw (⊕_assoc a b b) (rw ⊕_self (⊕_zero a))

pub ⊕_swap : (a b c : ℕ) → a ⊕ b ⊕ c ≡ a ⊕ c ⊕ b
⊕_swap a b c = ⊕_assoc a b c ∙ ap (λ (x : ℕ). a ⊕ x) (⊕_comm b c) ∙ sym (⊕_assoc a c b)

pub ⊕_lt : (n a b : ℕ) → a < 2 ^ n → b < 2 ^ n → a ⊕ b < 2 ^ n
unfolding ◌⊕◌
⊕_lt n a b p q = xor_lt n a b p q

-- sums in another order
pub ⊕_four : (p q r s : ℕ) → (p ⊕ q) ⊕ (r ⊕ s) ≡ (p ⊕ r) ⊕ (q ⊕ s)
⊕_four p q r s = sym (⊕_assoc (p ⊕ q) r s) ∙ ap (λ (x : ℕ). x ⊕ s) (⊕_swap p q r) ∙ ⊕_assoc (p ⊕ r) q s

-- the digits of a sum, times a vector
pub digit-⊕ : (x y s : ℕ) → x < 2 → y < 2 → differ x y * s ≡ x * s ⊕ y * s
digit-⊕ zero y s p q = rw (zero-mul s) (sym (zero_⊕ (y * s)))
digit-⊕ (suc zero) zero s p q = rw (zero-mul s) (sym (⊕_zero (1 * s)))
digit-⊕ (suc zero) (suc zero) s p q = zero-mul s ∙ sym (⊕_self (1 * s))
digit-⊕ (suc zero) (suc (suc y)) s p q = absurd (omega arith)
digit-⊕ (suc (suc x)) y s p q = absurd (omega arith)

-- a digit times a sum
pub times_⊕ : (d s t : ℕ) → d < 2 → d * (s ⊕ t) ≡ d * s ⊕ d * t
times_⊕ zero s t h = rw (zero-mul (s ⊕ t)) (rw (zero-mul s) (rw (zero-mul t) (sym (zero_⊕ 0))))
times_⊕ (suc zero) s t h = rw (one-mul (s ⊕ t)) (rw (one-mul s) (rw (one-mul t)))
times_⊕ (suc (suc d)) s t h = absurd (omega arith)

-- sums shifted
pub shl_⊕ : (k a b : ℕ) → (a ⊕ b) * 2 ^ k ≡ a * 2 ^ k ⊕ b * 2 ^ k
unfolding ◌⊕◌
shl_⊕ k a b =
    sym (ap₂ bit_xor (sym (add-zero (a * 2 ^ k))) (sym (add-zero (b * 2 ^ k))) ∙ xor_block k a b 0 0 (pow_pos k) (pow_pos k) ∙ add-zero (bit_xor a b * 2 ^ k))

-- equal after the same is added, and only then
pub eqb_⊕ : (x y z : ℕ) → eqb (x ⊕ z) (y ⊕ z) ≡ eqb x y
eqb_⊕ x y z = go (eqb x y) refl
  where
    go : (b : Bool) → eqb x y ≡ b → eqb (x ⊕ z) (y ⊕ z) ≡ b
    go true e = eq-eqb (x ⊕ z) (y ⊕ z) (ap (λ (v : ℕ). v ⊕ z) (eqb-true x y e))
    go false e = ne_eqb (x ⊕ z) (y ⊕ z) (λ h. eqb-false x y e (sym (⊕_cancel_r x z) ∙ ap (λ (v : ℕ). v ⊕ z) h ∙ ⊕_cancel_r y z))

pub eqb_⊕_zero : (x y : ℕ) → eqb (x ⊕ y) 0 ≡ eqb x y
eqb_⊕_zero x y = ap (eqb (x ⊕ y)) (sym (⊕_self y)) ∙ eqb_⊕ x y y
