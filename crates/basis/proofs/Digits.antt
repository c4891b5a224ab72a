-- Single digits of a number: where the highest stands, whether one is set, and what is left of them in a remainder.
-- Assumes nothing.
use mathlib.Core.Path.{◌≡◌, refl, sym, ap, ap₂, ◌∙◌}
use Prim.Native.Nat.{ℕ, zero, suc, ◌+◌, ◌-◌, ◌*◌, ◌/◌, ◌%◌, ◌^◌, ◌≤◌, ◌<◌}
use native.Mathlib.Nat.{zero-mul, one-mul, mod-lt, div-eq_of_lt, pow-suc}
use native.Mathlib.Numerals.{add-one}
use native.Mathlib.Omega.{arith}
use mathlib.Core.Bool.{Bool, true, false, true≢false}
use lib.Bits.{bit_xor, xor_block, xor_lt}
use lib.Dec.{eqb}
use lib.Pow.{pow_pos, split, high, field, mod-mod-pow}
use mathlib.Core.List.{List, ◌∷◌}
use native.Mathlib.Decide.{dec_lt}
use Rattle.space.specs.Space.{◌⊕◌}
use Rattle.basis.specs.Algorithm2.{digit, digits}

-- ---- the highest digit

pub record Top (k x : ℕ) : Type 0 where
  pub low : 2 ^ k ≤ x
  pub high : x < 2 ^ suc k

pub top_of : (k x : ℕ) → x / 2 ^ k ≡ 1 → Top k x
top_of k x e =
    let parts : 1 * 2 ^ k + x % 2 ^ k ≡ x = rw e at (split x k) in
    let rest : x % 2 ^ k < 2 ^ k = mod-lt x (pow_pos k) in
    record { low = omega (arith, one-mul (2 ^ k)); high = omega (arith, one-mul (2 ^ k), pow-suc 2 k) }

rest_of : (k x : ℕ) → Top k x → (r : ℕ) × (x ≡ 1 * 2 ^ k + r) × (r < 2 ^ k)
rest_of k x h = (x - 2 ^ k, omega (arith, h.low), omega (arith, h.low, h.high, pow-suc 2 k))

-- a vector with that digit, and one of lower digits only
pub top_⊕ : (k a b : ℕ) → Top k a → b < 2 ^ k → Top k (a ⊕ b)
unfolding ◌⊕◌
top_⊕ k a b p q =
    let x : (r : ℕ) × (a ≡ 1 * 2 ^ k + r) × (r < 2 ^ k) = rest_of k a p in
    let e : bit_xor a b ≡ bit_xor 1 0 * 2 ^ k + bit_xor x.0 b =
    ap₂ bit_xor x.1 (omega (arith, zero-mul (2 ^ k))) ∙ xor_block k 1 0 x.0 b x.2 q in
    let l : bit_xor x.0 b < 2 ^ k = xor_lt k x.0 b x.2 q in
    rw e (record { low = omega (arith, one-mul (2 ^ k)); high = omega (arith, one-mul (2 ^ k), pow-suc 2 k) })

-- two vectors with that digit
pub tops_⊕ : (k a b : ℕ) → Top k a → Top k b → a ⊕ b < 2 ^ k
unfolding ◌⊕◌
tops_⊕ k a b p q =
    let x : (r : ℕ) × (a ≡ 1 * 2 ^ k + r) × (r < 2 ^ k) = rest_of k a p in
    let y : (r : ℕ) × (b ≡ 1 * 2 ^ k + r) × (r < 2 ^ k) = rest_of k b q in
    let e : bit_xor a b ≡ bit_xor 1 1 * 2 ^ k + bit_xor x.0 y.0 = ap₂ bit_xor x.1 y.1 ∙ xor_block k 1 1 x.0 y.0 x.2 y.2 in
    let l : bit_xor x.0 y.0 < 2 ^ k = xor_lt k x.0 y.0 x.2 y.2 in
    rw e (omega (arith, zero-mul (2 ^ k)))

-- ---- whether a digit is set

pub digit_low : (k x : ℕ) → x < 2 ^ k → digit k x ≡ false
unfolding digit
digit_low k x h = rw (div-eq_of_lt h)

pub digit_top : (k x : ℕ) → Top k x → digit k x ≡ true
unfolding digit
digit_top k x h =
    let r : (r : ℕ) × (x ≡ 1 * 2 ^ k + r) × (r < 2 ^ k) = rest_of k x h in
    rw r.1 (rw (high 1 k r.2))

pub digit_high : (k x : ℕ) → digit k x ≡ true → 2 ^ k ≤ x
digit_high k x e = go (dec_lt x (2 ^ k))
  where
    go : Dec (x < 2 ^ k) → 2 ^ k ≤ x
    go (yes h) = absurd (true≢false (sym e ∙ digit_low k x h))
    go (no h) = omega arith

pub digit_none : (k x : ℕ) → x < 2 ^ suc k → digit k x ≡ false → x < 2 ^ k
digit_none k x h e = go (dec_lt x (2 ^ k))
  where
    go : Dec (x < 2 ^ k) → x < 2 ^ k
    go (yes l) = l
    go (no l) = absurd (true≢false (sym (digit_top k x (record { low = omega arith; high = h })) ∙ e))

-- ---- what a remainder keeps of them

pub digit_mod : (k m x : ℕ) → k < m → digit k (x % 2 ^ m) ≡ digit k x
unfolding digit
digit_mod k m x h =
    let e : m - suc k + (1 + k) ≡ m = omega arith in
    ap (λ (y : ℕ). eqb y 1) (rw e at (sym (field (x % 2 ^ (m - suc k + (1 + k))) 1 k) ∙ ap (λ (y : ℕ). y / 2 ^ k) (mod-mod-pow x (m - suc k) (1 + k)) ∙ field x 1 k))

pub digits_mod : (r k x : ℕ) → r ≤ k → digits r (x % 2 ^ k) ≡ digits r x
unfolding digits
digits_mod zero k x h = refl
digits_mod (suc r) zero x h = absurd (omega arith)
digits_mod (suc r) (suc k) x h =
    let e : k + 1 ≡ suc k = add-one k in
    let one : x % 2 ^ suc k % 2 ≡ x % 2 = rw e at (mod-mod-pow x k 1) in
    let half : x % 2 ^ suc k / 2 ≡ x / 2 % 2 ^ k = rw e at (field x k 1) in
    ap₂ (λ (d y : ℕ). eqb d 1 ∷ digits r y) one half ∙ ap (λ (l : List Bool). eqb (x % 2) 1 ∷ l) (digits_mod r k (x / 2) (omega arith))
