-- Some of independent vectors: what they span has none of the others in its set, and is none of the others. By induction on the vectors.
-- Assumes nothing.
use mathlib.Core.Path.{◌≡◌, refl}
use Prim.Native.Nat.{ℕ, zero, suc, ◌<◌}
use native.Mathlib.Omega.{arith}
use mathlib.Core.Bool.{Bool, true, false, cond, true≢false}
use mathlib.Core.List.{List, [], ◌∷◌}
use mathlib.Core.Logic.{◌⊎◌, inl, inr}
use lib.ListN.{length, get_or}
use Rattle.space.specs.Lists.{select}
use Rattle.space.specs.Space.{◌⊕◌, spans, set_of, independent}
use Rattle.space.proofs.Lists.{select-all}
use Rattle.space.proofs.Xor.{⊕_cancel}
use Rattle.space.proofs.Sets.{spans-cases, spans_add, spans-own, spans-through, first_free, rest_free}
use Rattle.confirmed.proofs.Masks.{all_place}

-- what some of them span, all of them span
fewer_span : (bs : List Bool) (ks : List ℕ) (v : ℕ) → spans (select bs ks) v ≡ true → spans ks v ≡ true
fewer_span bs ks = spans-through (select bs ks) ks (select-all (spans ks) bs ks (spans-own ks))

-- v and its sum with k are not both spanned, where k is not
apart : (k : ℕ) (ks : List ℕ) (v : ℕ) → independent (k ∷ ks) ≡ true → spans ks (v ⊕ k) ≡ true → spans ks v ≡ true → ⊥
apart k ks v i p q = first_free k ks i (rw (⊕_cancel v k) at (spans_add ks v (v ⊕ k) q p))

-- their set has none of the others
module _ (k : ℕ) (ks : List ℕ) (i : independent (k ∷ ks) ≡ true) (v j : ℕ) where
  without : spans ks v ≡ true → get_or (set_of ks v) j false ≡ false → get_or (set_of (k ∷ ks) v) (suc j) false ≡ false
  unfolding set_of
  without t e = rw t e

  with : spans ks (v ⊕ k) ≡ true → get_or (set_of ks (v ⊕ k)) j false ≡ false → get_or (set_of (k ∷ ks) v) (suc j) false ≡ false
  unfolding set_of
  with t e = go (spans ks v) refl
    where
      go : (b : Bool) → spans ks v ≡ b → get_or (cond b (false ∷ set_of ks v) (true ∷ set_of ks (v ⊕ k))) (suc j) false ≡ false
      go true h = absurd (apart k ks v i t h)
      go false h = e

pub set-within : (bs : List Bool) (ks : List ℕ) → length bs ≡ length ks → independent ks ≡ true → (v : ℕ) → spans (select bs ks) v ≡ true
    → (j : ℕ) → get_or bs j false ≡ false → get_or (set_of ks v) j false ≡ false
unfolding select set_of
set-within [] [] z i v s j e = refl
set-within [] (k ∷ ks) z i v s j e = absurd (omega arith)
set-within (b ∷ bs) [] z i v s j e = refl
set-within (false ∷ bs) (k ∷ ks) z i v s zero e = rw (fewer_span bs ks v s)
set-within (false ∷ bs) (k ∷ ks) z i v s (suc j) e =
    without k ks i v j (fewer_span bs ks v s) (set-within bs ks (omega arith) (rest_free k ks i) v s j e)
set-within (true ∷ bs) (k ∷ ks) z i v s zero e = absurd (true≢false e)
set-within (true ∷ bs) (k ∷ ks) z i v s (suc j) e = go (spans-cases k (select bs ks) v s)
    (λ w t. set-within bs ks (omega arith) (rest_free k ks i) w t j e)
  where
    go : (spans (select bs ks) v ≡ true) ⊎ (spans (select bs ks) (v ⊕ k) ≡ true)
        → ((w : ℕ) → spans (select bs ks) w ≡ true → get_or (set_of ks w) j false ≡ false) → get_or (set_of (k ∷ ks) v) (suc j) false ≡ false
    go (inl p) ih = without k ks i v j (fewer_span bs ks v p) (ih v p)
    go (inr p) ih = with k ks i v j (fewer_span bs ks (v ⊕ k) p) (ih (v ⊕ k) p)

-- and they span none of the others
pub left_free : (bs : List Bool) (ks : List ℕ) → length bs ≡ length ks → independent ks ≡ true → (j : ℕ) → j < length ks → get_or bs j false ≡ false
    → spans (select bs ks) (get_or ks j 0) ≡ true → ⊥
unfolding select
left_free bs [] z i j h e s = omega arith
left_free [] (k ∷ ks) z i j h e s = omega arith
left_free (false ∷ bs) (k ∷ ks) z i zero h e s = first_free k ks i (fewer_span bs ks k s)
left_free (true ∷ bs) (k ∷ ks) z i zero h e s = true≢false e
left_free (false ∷ bs) (k ∷ ks) z i (suc j) h e s = left_free bs ks (omega arith) (rest_free k ks i) j (omega arith) e s
left_free (true ∷ bs) (k ∷ ks) z i (suc j) h e s = go (spans-cases k (select bs ks) (get_or ks j 0) s) (left_free bs ks (omega arith) (rest_free k ks i) j (omega arith) e)
  where
    go : (spans (select bs ks) (get_or ks j 0) ≡ true) ⊎ (spans (select bs ks) (get_or ks j 0 ⊕ k) ≡ true) → (spans (select bs ks) (get_or ks j 0) ≡ true → ⊥) → ⊥
    go (inl p) ih = ih p
    go (inr p) ih = apart k ks (get_or ks j 0) i (fewer_span bs ks (get_or ks j 0 ⊕ k) p) (all_place (spans ks) ks (spans-own ks) j (omega arith))
