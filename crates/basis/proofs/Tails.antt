-- The lowest digits of a vector beside its key: a set of kept places, and how sums pass through.
-- Assumes nothing.
use mathlib.Core.Path.{◌≡◌, refl, ap, ◌∙◌}
use Prim.Native.Nat.{ℕ, zero, suc, ◌*◌, ◌/◌, ◌%◌, ◌^◌, ◌<◌}
use native.Mathlib.Nat.{mod-lt, zero-lt-suc, zero-mul, one-mul, mul-mod_left, mod-eq_of_lt}
use native.Mathlib.Omega.{arith}
use mathlib.Core.List.{List, [], ◌∷◌}
use lib.Bits.{xor_mod}
use lib.Dec.{eqb}
use lib.ListN.{length}
use lib.Pow.{shl-shr}
use Rattle.space.specs.Space.{◌⊕◌, sum_of, sum_by}
use Rattle.space.proofs.Xor.{zero_⊕}
use Rattle.basis.specs.Algorithm2.{digits}
use Rattle.basis.proofs.Stands.{key}

-- ---- digits that name a set

pub length_digits : (n q : ℕ) → length (digits n q) ≡ n
unfolding digits
length_digits zero q = refl
length_digits (suc n) q = ap suc (length_digits n (q / 2))

pub sum_by-digits : (ks : List ℕ) (q : ℕ) → sum_by ks q ≡ sum_of ks (digits (length ks) q)
unfolding sum_by sum_of digits
sum_by-digits [] q = refl
sum_by-digits (k ∷ ks) q = go (q % 2) (mod-lt q (zero-lt-suc 1)) (sum_by-digits ks (q / 2))
  where
    go : (d : ℕ) → d < 2 → sum_by ks (q / 2) ≡ sum_of ks (digits (length ks) (q / 2))
        → d * k ⊕ sum_by ks (q / 2) ≡ sum_of (k ∷ ks) (eqb d 1 ∷ digits (length ks) (q / 2))
    go zero h e = rw (zero-mul k) (zero_⊕ (sum_by ks (q / 2)) ∙ e)
    go (suc zero) h e = rw (one-mul k) (rw e)
    go (suc (suc d)) h e = absurd (omega arith)

-- ---- the t lowest digits, beside the key

unfoldable pub tail : ℕ → ℕ → ℕ
tail t x = x % 2 ^ t

pub tail-⊕ : (t a b : ℕ) → tail t (a ⊕ b) ≡ tail t a ⊕ tail t b
unfolding tail ◌⊕◌
tail-⊕ t a b = xor_mod a b t

pub tail_low : (t x : ℕ) → x < 2 ^ t → tail t x ≡ x
unfolding tail
tail_low t x h = mod-eq_of_lt h

pub tail_shl : (t v : ℕ) → tail t (v * 2 ^ t) ≡ 0
unfolding tail
tail_shl t v = mul-mod_left v (2 ^ t)

pub key_shl : (t v : ℕ) → key t (v * 2 ^ t) ≡ v
unfolding key
key_shl t v = shl-shr v t
