-- The digit worth 2^j of a number in bytes, turned.
-- Assumes nothing.
use mathlib.Core.Path.{◌≡◌, sym, ap, ◌∙◌}
use mathlib.Core.List.{List, [], ◌∷◌}
use Prim.Native.Nat.{ℕ, zero, suc, ◌+◌, ◌-◌, ◌*◌, ◌/◌, ◌%◌, ◌^◌, ◌<◌}
use native.Mathlib.Nat.{mod-lt, zero-lt-suc, zero-mul, zero-add, add-zero, lt_of_lt_of_le}
use native.Mathlib.Omega.{arith}
use lib.Bits.{bit_xor, xor_block, xor_zero_r, xor_lt}
use lib.Dec.{lit<}
use lib.ListN.{length, get_or, set, length-set}
use lib.Pow.{pow_pos, pow-add, pow-lt, pow_mono, shl_lt}
use Rattle.space.specs.Space.{◌⊕◌}
use Rattle.space.specs.Lists.{Below}
use Rattle.space.proofs.Lists.{below_at, below_set}
use Rattle.octets.specs.Octets.{number, bytes}
use Rattle.octets.proofs.Numbers.{number_lt, bytes-number}
use Rattle.octets.proofs.Digits.{one_shl}

-- ---- one byte changed

number-set : (v : List ℕ) (i y : ℕ) → i < length v → Below 256 v → y < 2 ^ 8
    → number (set v i (bit_xor (get_or v i 0) y)) ≡ number v ⊕ y * 2 ^ (8 * (length v - suc i))
unfolding number ◌⊕◌
number-set [] i y h b l = absurd (omega arith)
number-set (x ∷ a) zero y h b l =
    let k : suc (length a) - 1 ≡ length a = omega arith in
    let s : bit_xor (x * 2 ^ (8 * length a) + number a) (y * 2 ^ (8 * length a) + 0) ≡ bit_xor x y * 2 ^ (8 * length a) + bit_xor (number a) 0 =
    xor_block (8 * length a) x y (number a) 0 (number_lt a b.1) (pow_pos (8 * length a)) in
    let z : bit_xor (number a) 0 ≡ number a = xor_zero_r (number a) in
    rw k (rw (add-zero (y * 2 ^ (8 * length a)), z) at (sym s))
number-set (x ∷ a) (suc i) y h b l =
    let k : suc (length a) - suc (suc i) ≡ length a - suc i = omega arith in
    let small : y * 2 ^ (8 * (length a - suc i)) < 2 ^ (8 * length a) = lt_of_lt_of_le (shl_lt 8 (8 * (length a - suc i)) l) (pow_mono (omega arith)) in
    let s : bit_xor (x * 2 ^ (8 * length a) + number a) (0 * 2 ^ (8 * length a) + y * 2 ^ (8 * (length a - suc i)))
    ≡ bit_xor x 0 * 2 ^ (8 * length a) + bit_xor (number a) (y * 2 ^ (8 * (length a - suc i))) =
    xor_block (8 * length a) x 0 (number a) (y * 2 ^ (8 * (length a - suc i))) (number_lt a b.1) small in
    rw (k, length-set a i (bit_xor (get_or a i 0) y), number-set a i y (omega arith) b.1 l)
    (sym (rw (zero-mul (2 ^ (8 * length a)), zero-add (y * 2 ^ (8 * (length a - suc i))), xor_zero_r x) at s))

-- ---- the digit worth 2 ^ j

abbrev pub byte_of : List ℕ → ℕ → ℕ
byte_of v j = length v - 1 - j / 8

module _ (v : List ℕ) (j : ℕ) (h : j < 8 * length v) (b : Below 256 v) where
  where_is : 8 * (length v - suc (byte_of v j)) ≡ 8 * (j / 8)
  where_is = omega arith

  pub digit_turned : set v (byte_of v j) (bit_xor (get_or v (byte_of v j) 0) (1 * 2 ^ (j % 8) % 256)) ≡ bytes (length v) (number v ⊕ 2 ^ j)
  digit_turned =
      let l : 2 ^ (j % 8) < 2 ^ 8 = pow-lt (mod-lt j (zero-lt-suc 7)) in
      let one : 1 * 2 ^ (j % 8) % 2 ^ 8 ≡ 2 ^ (j % 8) = one_shl (j % 8) 8 (mod-lt j (zero-lt-suc 7)) in
      let two : 2 ^ (j % 8) * 2 ^ (8 * (j / 8)) ≡ 2 ^ j = sym (pow-add 2 (j % 8) (8 * (j / 8))) ∙ ap (λ (x : ℕ). 2 ^ x) (omega arith) in
      let new : List ℕ = set v (byte_of v j) (bit_xor (get_or v (byte_of v j) 0) (2 ^ (j % 8))) in
      let n : number new ≡ number v ⊕ 2 ^ j = number-set v (byte_of v j) (2 ^ (j % 8)) (omega arith) b l ∙ rw (where_is, two) in
      rw one (sym (bytes-number new (below_set 256 v (byte_of v j) _ b (xor_lt 8 (get_or v (byte_of v j) 0) (2 ^ (j % 8)) (below_at 256 v (byte_of v j) (lit< tt) b) l)))
      ∙ ap (λ (k : ℕ). bytes k (number new)) (length-set v (byte_of v j) _) ∙ ap (bytes (length v)) n)
