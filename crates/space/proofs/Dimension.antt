-- Independent vectors of n digits are at most n, and n of them span all: by counting what they span.
-- Assumes nothing.
use mathlib.Core.Path.{◌≡◌, refl, sym, ap, ap₂, ◌∙◌}
use Prim.Native.Nat.{ℕ, zero, suc, ◌+◌, ◌*◌, ◌/◌, ◌%◌, ◌^◌, ◌≤◌, ◌<◌}
use native.Mathlib.Nat.{add_comm, mod-lt, zero-lt-suc, pow-suc, add-zero}
use native.Mathlib.Omega.{arith}
use mathlib.Core.Bool.{Bool, true, false, cond, ◌||◌}
use mathlib.Core.List.{List, [], ◌∷◌}
use lib.Arith.{digits_div, digits_mod, lt-one}
use lib.Bits.{differ}
use lib.Pow.{pow-lt}
use native.Mathlib.Decide.{dec_lt}
use lib.Dec.{eqb}
use borrow.Author.Tests.{ne_eqb}
use lib.ListN.{length}
use Rattle.space.specs.Space.{◌⊕◌, spans, independent}
use Rattle.space.specs.Lists.{Below}
use Rattle.space.proofs.Xor.{⊕-step, ⊕_zero, ⊕_cancel}
use Rattle.space.proofs.Sets.{spans_add, first_free, rest_free}

abbrev one : Bool → ℕ
one b = cond b 1 0

-- how many numbers below 2 ^ n pass a test
many : ℕ → (ℕ → Bool) → ℕ
many zero f = one (f 0)
many (suc n) f = many n (λ u. f (u * 2)) + many n (λ u. f (u * 2 + 1))

many_ext : (n : ℕ) (f g : ℕ → Bool) → ((u : ℕ) → f u ≡ g u) → many n f ≡ many n g
unfolding many
many_ext zero f g e = ap one (e 0)
many_ext (suc n) f g e = ap₂ (λ (x y : ℕ). x + y) (many_ext n _ _ (λ u. e (u * 2))) (many_ext n _ _ (λ u. e (u * 2 + 1)))

-- the digits of a sum
split_⊕ : (u d k : ℕ) → d < 2 → (u * 2 + d) ⊕ k ≡ (u ⊕ k / 2) * 2 + differ d (k % 2)
split_⊕ u d k h = ⊕-step (u * 2 + d) k ∙ rw (digits_div u h) (rw (digits_mod u h))

even_⊕ : (u k : ℕ) → u * 2 ⊕ k ≡ (u ⊕ k / 2) * 2 + k % 2
even_⊕ u k = rw (← add-zero (u * 2)) (split_⊕ u 0 k (zero-lt-suc 1))

half_lt : (n k : ℕ) → k < 2 ^ suc n → k / 2 < 2 ^ n
half_lt n k h = omega (arith, pow-suc 2 n)

-- as many pass at the sums with k
module _ (n : ℕ) (ih : (f : ℕ → Bool) (k : ℕ) → k < 2 ^ n → many n (λ v. f (v ⊕ k)) ≡ many n f) (f : ℕ → Bool) (k : ℕ) (h : k < 2 ^ suc n) where
  low_half : k % 2 ≡ 0 → many n (λ u. f (u * 2 ⊕ k)) ≡ many n (λ u. f (u * 2))
  low_half e = many_ext n _ _ (λ u. ap f (even_⊕ u k ∙ rw e (add-zero _))) ∙ ih (λ u. f (u * 2)) (k / 2) (half_lt n k h)

  low_half' : k % 2 ≡ 1 → many n (λ u. f (u * 2 ⊕ k)) ≡ many n (λ u. f (u * 2 + 1))
  low_half' e = many_ext n _ _ (λ u. ap f (even_⊕ u k ∙ rw e)) ∙ ih (λ u. f (u * 2 + 1)) (k / 2) (half_lt n k h)

  high_half : k % 2 ≡ 0 → many n (λ u. f ((u * 2 + 1) ⊕ k)) ≡ many n (λ u. f (u * 2 + 1))
  high_half e = many_ext n _ _ (λ u. ap f (split_⊕ u 1 k (omega arith) ∙ rw e)) ∙ ih (λ u. f (u * 2 + 1)) (k / 2) (half_lt n k h)

  high_half' : k % 2 ≡ 1 → many n (λ u. f ((u * 2 + 1) ⊕ k)) ≡ many n (λ u. f (u * 2))
  high_half' e = many_ext n _ _ (λ u. ap f (split_⊕ u 1 k (omega arith) ∙ rw e (add-zero _))) ∙ ih (λ u. f (u * 2)) (k / 2) (half_lt n k h)

  shift_step : (d : ℕ) → k % 2 ≡ d → many (suc n) (λ v. f (v ⊕ k)) ≡ many (suc n) f
  unfolding many
  shift_step zero e = ap₂ (λ (x y : ℕ). x + y) (low_half e) (high_half e)
  shift_step (suc zero) e = ap₂ (λ (x y : ℕ). x + y) (low_half' e) (high_half' e) ∙ add_comm _ _
  shift_step (suc (suc d)) e = absurd (omega (arith, mod-lt k (zero-lt-suc 1)))

many_shift : (n : ℕ) (f : ℕ → Bool) (k : ℕ) → k < 2 ^ n → many n (λ v. f (v ⊕ k)) ≡ many n f
unfolding many
many_shift zero f k h = rw (lt-one h) (rw ⊕_zero)
many_shift (suc n) f k h = shift_step n (many_shift n) f k h (k % 2) refl

-- tests that never both pass
one_or : (a b : Bool) → (a ≡ true → b ≡ true → ⊥) → one (a || b) ≡ one a + one b
one_or true true h = absurd (h refl refl)
one_or true false h = refl
one_or false b h = omega arith

many_or : (n : ℕ) (f g : ℕ → Bool) → ((u : ℕ) → f u ≡ true → g u ≡ true → ⊥) → many n (λ u. f u || g u) ≡ many n f + many n g
unfolding many
many_or zero f g h = one_or (f 0) (g 0) (h 0)
many_or (suc n) f g h =
    omega (arith, many_or n (λ u. f (u * 2)) (λ u. g (u * 2)) (λ u. h (u * 2)), many_or n (λ u. f (u * 2 + 1)) (λ u. g (u * 2 + 1)) (λ u. h (u * 2 + 1)))

many_none : (n : ℕ) (f : ℕ → Bool) → ((u : ℕ) → f u ≡ false) → many n f ≡ 0
unfolding many
many_none zero f h = ap one (h 0)
many_none (suc n) f h = omega (arith, many_none n (λ u. f (u * 2)) (λ u. h (u * 2)), many_none n (λ u. f (u * 2 + 1)) (λ u. h (u * 2 + 1)))

twice_zero : (u : ℕ) → eqb (u * 2) 0 ≡ eqb u 0
twice_zero zero = refl
twice_zero (suc u) = ne_eqb (suc u * 2) 0 (λ e. omega arith) ∙ sym (ne_eqb (suc u) 0 (λ e. omega arith))

many_zero : (n : ℕ) → many n (λ v. eqb v 0) ≡ 1
unfolding many
many_zero zero = refl
many_zero (suc n) =
    omega (arith, many_zero n, many_ext n _ _ twice_zero, many_none n (λ u. eqb (u * 2 + 1) 0) (λ u. ne_eqb (u * 2 + 1) 0 (λ e. omega arith)))

one_le : (b : Bool) → one b ≤ 1
one_le true = omega arith
one_le false = omega arith

many_le : (n : ℕ) (f : ℕ → Bool) → many n f ≤ 2 ^ n
unfolding many
many_le zero f = one_le (f 0)
many_le (suc n) f = omega (arith, many_le n (λ u. f (u * 2)), many_le n (λ u. f (u * 2 + 1)), pow-suc 2 n)

one_full : (b : Bool) → one b ≡ 1 → b ≡ true
one_full true e = refl
one_full false e = absurd (omega arith)

many-all : (n : ℕ) (f : ℕ → Bool) → many n f ≡ 2 ^ n → (v : ℕ) → v < 2 ^ n → f v ≡ true
unfolding many
many-all zero f e v h = rw (lt-one h) (one_full (f 0) e)
many-all (suc n) f e v h = go (v % 2) refl (many-all n (λ u. f (u * 2)) low (v / 2) (half_lt n v h)) (many-all n (λ u. f (u * 2 + 1)) high (v / 2) (half_lt n v h))
  where
    low : many n (λ u. f (u * 2)) ≡ 2 ^ n
    low = omega (arith, e, many_le n (λ u. f (u * 2)), many_le n (λ u. f (u * 2 + 1)), pow-suc 2 n)

    high : many n (λ u. f (u * 2 + 1)) ≡ 2 ^ n
    high = omega (arith, e, many_le n (λ u. f (u * 2)), many_le n (λ u. f (u * 2 + 1)), pow-suc 2 n)

    go : (d : ℕ) → v % 2 ≡ d → f (v / 2 * 2) ≡ true → f (v / 2 * 2 + 1) ≡ true → f v ≡ true
    go zero p a b = ap f (omega arith) ∙ a
    go (suc zero) p a b = ap f (omega arith) ∙ b
    go (suc (suc d)) p a b = absurd (omega (arith, mod-lt v (zero-lt-suc 1)))

-- independent vectors span 2 to their number
span_size : (n : ℕ) (ks : List ℕ) → Below (2 ^ n) ks → independent ks ≡ true → many n (spans ks) ≡ 2 ^ length ks
unfolding spans
span_size n [] b i = many_zero n
span_size n (k ∷ ks) b i =
    omega (
      arith,
      many_or n (spans ks) (λ v. spans ks (v ⊕ k)) (λ v p q. first_free k ks i (rw (⊕_cancel v k) at (spans_add ks v (v ⊕ k) p q))),
      many_shift n (spans ks) k b.0,
      span_size n ks b.1 (rest_free k ks i),
      pow-suc 2 (length ks),
    )

pub independent-most : (n : ℕ) (ks : List ℕ) → Below (2 ^ n) ks → independent ks ≡ true → length ks ≤ n
independent-most n ks b i = pow_cancel (length ks) n (omega (arith, span_size n ks b i, many_le n (spans ks)))
  where
    pow_cancel : (i j : ℕ) → 2 ^ i ≤ 2 ^ j → i ≤ j
    pow_cancel i j h = go (dec_lt j i)
      where
        go : Dec (j < i) → i ≤ j
        go (yes l) = absurd (omega (arith, pow-lt l))
        go (no f) = omega arith

pub spans_all : (n : ℕ) (ks : List ℕ) → Below (2 ^ n) ks → independent ks ≡ true → length ks ≡ n → (v : ℕ) → v < 2 ^ n → spans ks v ≡ true
spans_all n ks b i e v h = many-all n (spans ks) (span_size n ks b i ∙ ap (λ (x : ℕ). 2 ^ x) e) v h
