-- The highest and the lowest set bit of a number of 64 bits: where they stand, and what is left without the lowest.
-- Assumes nothing.
use mathlib.Core.Path.{◌≡◌, refl, sym, ap, ap₂, ◌∙◌}
use Prim.Native.Nat.{ℕ, zero, suc, ◌+◌, ◌-◌, ◌*◌, ◌/◌, ◌%◌, ◌^◌, ◌≤◌, ◌<◌}
use native.Mathlib.Decide.{dec_lt}
use native.Mathlib.Nat.{pow-suc, mod_self, mul_assoc, add-mul, mul-mod_left}
use native.Mathlib.Omega.{arith}
use lib.Bits.{bit_and, and_block, and_self, and_mask}
use lib.Count.{count_leading_zeros, leading_top, count_trailing_zeros, under}
use lib.Pow.{pow_pos, pow-add, low}
use Rattle.std.proofs.Common.{Option, Some, None}
use Rattle.std.specs.Option.{IfNone, IfSome, unwrap_or}
use Rattle.std.specs.Int.Bits.{and_zero_l}
use Rattle.octets.proofs.Digits.{pow_lt_inv}
use Rattle.bits.specs.Bits.{highest, lowest}

-- ---- the highest

pub highest_place : (x : ℕ) → 0 < x → x < 2 ^ 64 → (count_leading_zeros 64 x + suc (highest x) ≡ 64) × (2 ^ highest x ≤ x) × (x < 2 ^ suc (highest x))
unfolding highest
highest_place x p h =
    let j = leading_top 64 x p h in
    let is : 63 - count_leading_zeros 64 x ≡ j.0 = omega (arith, j.1) in
    rw is (j.1, j.2, j.3)

-- where the logarithm of a number says
pub log_highest : (x : ℕ) (log : Option ℕ) → x < 2 ^ 64 → IfNone log (x ≡ 0) → IfSome log (λ k. 2 ^ k ≤ x) → IfSome log (λ k. x < 2 * 2 ^ k) → unwrap_or log 0 ≡ highest x
unfolding highest count_leading_zeros
log_highest x None fits none least most = rw none
log_highest x (Some k) fits none least most =
    let place = highest_place x (omega (arith, least, pow_pos k)) fits in
    let above : k < suc (highest x) = pow_lt_inv k (suc (highest x)) (omega (arith, least, place.2)) in
    let below : highest x < suc k = pow_lt_inv (highest x) (suc k) (omega (arith, most, place.1, pow-suc 2 k)) in
    unfold highest in omega (arith, above, below)

-- ---- the lowest

-- The lowest set bit of x is the one worth 2^k, and so many times twice that stand above it.
pub record Lowest (k x : ℕ) : Type 0 where
  pub above : ℕ
  pub parts : x ≡ above * 2 ^ suc k + 2 ^ k

double : (m t : ℕ) → Lowest t m → (n : ℕ) → n ≡ m * 2 → Lowest (suc t) n
double m t L n e = record {
  above = L.above;
  parts = e ∙ ap (λ (y : ℕ). y * 2) L.parts ∙ add-mul (L.above * 2 ^ suc t) (2 ^ t) 2
      ∙ ap₂ (λ (y z : ℕ). y + z) (mul_assoc L.above (2 ^ suc t) 2 ∙ ap (λ (y : ℕ). L.above * y) (sym (pow-suc 2 (suc t)))) (sym (pow-suc 2 t));
}

trailing_lowest : (w n : ℕ) → 0 < n → n < 2 ^ w → Lowest (count_trailing_zeros w n) n
unfolding count_trailing_zeros
trailing_lowest zero n p h = absurd (omega arith)
trailing_lowest (suc w) n p h = go (n % 2) refl (λ q l. trailing_lowest w (n / 2) q l)
  where
    go : (d : ℕ) → n % 2 ≡ d → (0 < n / 2 → n / 2 < 2 ^ w → Lowest (count_trailing_zeros w (n / 2)) (n / 2)) → Lowest (under d (count_trailing_zeros w (n / 2))) n
    go zero e half = double (n / 2) (count_trailing_zeros w (n / 2)) (half (omega arith) (omega (arith, pow-suc 2 w))) n (omega arith)
    go (suc zero) e half = record { above = n / 2; parts = omega arith }
    go (suc (suc d)) e half = absurd (omega arith)

pub lowest_place : (x : ℕ) → 0 < x → x < 2 ^ 64 → Lowest (lowest x) x
unfolding lowest
lowest_place x p h = trailing_lowest 64 x p h

-- a number times 2^m has no bit below that
pub lowest-above : (m x k : ℕ) → Lowest k (x * 2 ^ m) → m ≤ k
lowest-above m x k L = go (dec_lt k m)
  where
    go : Dec (k < m) → m ≤ k
    go (no h) = omega arith
    go (yes h) =
        let e : m - suc k + suc k ≡ m = omega arith in
        let whole : x * 2 ^ m ≡ x * 2 ^ (m - suc k) * 2 ^ suc k =
        ap (λ (n : ℕ). x * 2 ^ n) (sym e) ∙ ap (λ (n : ℕ). x * n) (pow-add 2 (m - suc k) (suc k)) ∙ sym (mul_assoc x (2 ^ (m - suc k)) (2 ^ suc k)) in
        let small : 2 ^ k < 2 ^ suc k = omega (arith, pow-suc 2 k, pow_pos k) in
        let none : x * 2 ^ m % 2 ^ suc k ≡ 0 = ap (λ (n : ℕ). n % 2 ^ suc k) whole ∙ mul-mod_left (x * 2 ^ (m - suc k)) (2 ^ suc k) in
        let some : x * 2 ^ m % 2 ^ suc k ≡ 2 ^ k = ap (λ (n : ℕ). n % 2 ^ suc k) L.parts ∙ low L.above (suc k) small in
        absurd (omega (arith, none, some, pow_pos k))

-- ---- without the lowest

and_less : (k x : ℕ) → Lowest k x → bit_and x (x - 1) + 2 ^ k ≡ x
and_less k x L =
    let less : x - 1 ≡ L.above * 2 ^ suc k + (2 ^ k - 1) = omega (arith, L.parts, pow_pos k) in
    let small : 2 ^ k < 2 ^ suc k = omega (arith, pow-suc 2 k, pow_pos k) in
    let none : bit_and (2 ^ k) (2 ^ k - 1) ≡ 0 = and_mask (2 ^ k) k ∙ mod_self (2 ^ k) in
    ap (λ (y : ℕ). y + 2 ^ k) (ap₂ bit_and L.parts less ∙ and_block (suc k) L.above L.above (2 ^ k) (2 ^ k - 1) small (omega arith)
    ∙ ap₂ (λ (y z : ℕ). y * 2 ^ suc k + z) (and_self L.above) none) ∙ omega (arith, L.parts)

pub lowest_away : (x : ℕ) → 0 < x → x < 2 ^ 64 → bit_and x (x - 1) ≡ x - 2 ^ lowest x
lowest_away x p h = omega (arith, and_less (lowest x) x (lowest_place x p h))

-- the same for each number, as a word of 64 bits computes it
pub lowest_off : (x : ℕ) → x < 2 ^ 64 → bit_and x ((x + (2 ^ 64 - 1)) % 2 ^ 64) ≡ x - 2 ^ lowest x
lowest_off zero h = and_zero_l ((2 ^ 64 - 1) % 2 ^ 64) ∙ omega (arith, pow_pos (lowest 0))
lowest_off (suc x) h =
    let less : (suc x + (2 ^ 64 - 1)) % 2 ^ 64 ≡ suc x - 1 = omega arith in
    rw less (lowest_away (suc x) (omega arith) h)

-- what is left, and the bit
pub lowest-back : (x : ℕ) → 0 < x → x < 2 ^ 64 → x - 2 ^ lowest x + 2 ^ lowest x ≡ x
lowest-back x p h = omega (arith, (lowest_place x p h).parts)
