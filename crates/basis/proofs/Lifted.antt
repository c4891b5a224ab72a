-- Kept rows lifted: each above, its kept place as one digit below. In any sum of them the digits below name the rows that the part
-- above is the sum of, since that holds of each one and sums pass through both parts.
-- Assumes nothing.
use mathlib.Core.Path.{◌≡◌, refl, sym, ap, ap₂, ◌∙◌}
use Prim.Native.Nat.{ℕ, suc, ◌+◌, ◌*◌, ◌^◌, ◌≤◌, ◌<◌}
use native.Mathlib.Nat.{add-zero}
use native.Mathlib.Numerals.{add-one}
use native.Mathlib.Omega.{arith}
use mathlib.Core.Bool.{true}
use mathlib.Core.List.{List, [], ◌∷◌, ◌++◌, map}
use mathlib.Core.Logic.{◌⊎◌, inl, inr}
use lib.ListN.{length, length-append}
use lib.Pow.{pow_pos, pow-lt}
use lib.Seq.{append_snoc, get_or-append_seam}
use borrow.Author.Tests.{eqb-true}
use Rattle.space.specs.Space.{◌⊕◌, sum_by, spans}
use Rattle.space.proofs.Xor.{⊕_self, zero_⊕, ⊕_zero, ⊕_cancel_r, ⊕_four}
use Rattle.space.proofs.Sets.{spans-cases}
use Rattle.space.proofs.SumBy.{sum_by-⊕, sum_by_zero, sum_by_unit}
use Rattle.basis.proofs.Tails.{tail, tail-⊕, tail_low, tail_shl, key_shl}
use Rattle.basis.proofs.Stands.{key, key-⊕, key_low}

-- ---- the vector of kept place j: the row above, the digit worth 2 ^ j below

unfoldable pub lifted : ℕ → ℕ → List ℕ → List ℕ
lifted t j [] = []
lifted t j (k ∷ ks) = k * 2 ^ t ⊕ 2 ^ j ∷ lifted t (suc j) ks

pub lifted-snoc : (t j : ℕ) (ks : List ℕ) (v : ℕ) → lifted t j (ks ++ (v ∷ [])) ≡ lifted t j ks ++ (v * 2 ^ t ⊕ 2 ^ (j + length ks) ∷ [])
unfolding lifted
lifted-snoc t j [] v = rw (add-zero j)
lifted-snoc t j (k ∷ ks) v =
    let e : suc j + length ks ≡ j + suc (length ks) = omega arith in
    ap (λ (l : List ℕ). k * 2 ^ t ⊕ 2 ^ j ∷ l) (lifted-snoc t (suc j) ks v ∙ rw e)

module _ (t k j : ℕ) (h : j < t) where
  lifted-key : key t (k * 2 ^ t ⊕ 2 ^ j) ≡ k
  lifted-key = key-⊕ t (k * 2 ^ t) (2 ^ j) ∙ rw (key_shl t k) (rw (key_low t (2 ^ j) (pow-lt h)) (⊕_zero k))

  lifted-tail : tail t (k * 2 ^ t ⊕ 2 ^ j) ≡ 2 ^ j
  lifted-tail = tail-⊕ t (k * 2 ^ t) (2 ^ j) ∙ rw (tail_shl t k) (rw (tail_low t (2 ^ j) (pow-lt h)) (zero_⊕ (2 ^ j)))

pub lifted_keys : (t j : ℕ) (ks : List ℕ) → j + length ks ≤ t → map (key t) (lifted t j ks) ≡ ks
unfolding lifted
lifted_keys t j [] h = refl
lifted_keys t j (k ∷ ks) h = ap₂ (λ (x : ℕ) (l : List ℕ). x ∷ l) (lifted-key t k j (omega arith)) (lifted_keys t (suc j) ks (omega arith))

-- ---- the row above is the sum of the kept rows that the digits below name

unfoldable fault : ℕ → List ℕ → ℕ → ℕ
fault t ks x = key t x ⊕ sum_by ks (tail t x)

fault-⊕ : (t : ℕ) (ks : List ℕ) (a b : ℕ) → fault t ks (a ⊕ b) ≡ fault t ks a ⊕ fault t ks b
unfolding fault
fault-⊕ t ks a b = rw (key-⊕ t a b) (rw (tail-⊕ t a b) (rw (sum_by-⊕ ks (tail t a) (tail t b)) (⊕_four (key t a) (key t b) (sum_by ks (tail t a)) (sum_by ks (tail t b)))))

fault_zero : (t : ℕ) (ks : List ℕ) → fault t ks 0 ≡ 0
unfolding fault
fault_zero t ks = rw (key_low t 0 (pow_pos t)) (rw (tail_low t 0 (pow_pos t)) (rw (sum_by_zero ks) (zero_⊕ 0)))

fault-lifted : (t : ℕ) (pre : List ℕ) (k : ℕ) (ks : List ℕ) → length pre < t → fault t (pre ++ k ∷ ks) (k * 2 ^ t ⊕ 2 ^ length pre) ≡ 0
unfolding fault
fault-lifted t pre k ks h =
    rw (lifted-key t k (length pre) h) (rw (lifted-tail t k (length pre) h)
    (rw (sum_by_unit (pre ++ k ∷ ks) (length pre) (omega (arith, length-append pre (k ∷ ks)))) (rw (get_or-append_seam pre k ks 0) (⊕_self k))))

-- what is zero on each of a list is zero on their sums
unfoldable Zeros : (ℕ → ℕ) → List ℕ → Type 0
Zeros f [] = Unit {0}
Zeros f (x ∷ l) = (f x ≡ 0) × Zeros f l

zeros_span : (f : ℕ → ℕ) → ((a b : ℕ) → f (a ⊕ b) ≡ f a ⊕ f b) → f 0 ≡ 0 → (l : List ℕ) → Zeros f l → (v : ℕ) → spans l v ≡ true → f v ≡ 0
unfolding Zeros spans
zeros_span f add z [] a v e = ap f (eqb-true v 0 e) ∙ z
zeros_span f add z (k ∷ l) a v e = go (spans-cases k l v e) (zeros_span f add z l a.1)
  where
    go : (spans l v ≡ true) ⊎ (spans l (v ⊕ k) ≡ true) → ((w : ℕ) → spans l w ≡ true → f w ≡ 0) → f v ≡ 0
    go (inl p) ih = ih v p
    go (inr p) ih = ap f (sym (⊕_cancel_r v k)) ∙ add (v ⊕ k) k ∙ rw (ih (v ⊕ k) p) (rw a.0 (zero_⊕ 0))

lifted-zeros : (t : ℕ) (pre ks : List ℕ) → length pre + length ks ≤ t → Zeros (fault t (pre ++ ks)) (lifted t (length pre) ks)
unfolding Zeros lifted
lifted-zeros t pre [] h = tt
lifted-zeros t pre (k ∷ ks) h = (
  fault-lifted t pre k ks (omega arith),
  rw (length-append pre (k ∷ []) ∙ add-one (length pre)) at (rw (append_snoc pre k ks) at (lifted-zeros t (pre ++ (k ∷ [])) ks (omega (arith, length-append pre (k ∷ []))))),
)

-- so it holds of every sum
module _ (t : ℕ) (ks : List ℕ) (room : length ks ≤ t) where
  pub lifted-named : (v : ℕ) → spans (lifted t 0 ks) v ≡ true → key t v ⊕ sum_by ks (tail t v) ≡ 0
  lifted-named v e = unfold fault in zeros_span (fault t ks) (fault-⊕ t ks) (fault_zero t ks) (lifted t 0 ks) (lifted-zeros t [] ks (omega arith)) v e
