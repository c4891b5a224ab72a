-- Slots that stand for vectors: in form, and spanning what the vectors span. A pass over them tells whether a key is a sum of the
-- vectors' keys, and what it leaves, stored where it stopped, makes slots that stand for one vector more.
-- Assumes nothing.
use mathlib.Core.Path.{◌≡◌, refl, sym, ap, ◌∙◌}
use Prim.Native.Nat.{ℕ, suc, ◌+◌, ◌*◌, ◌/◌, ◌%◌, ◌^◌, ◌<◌}
use native.Mathlib.Nat.{mod-lt, zero-mul, div-eq_of_lt}
use native.Mathlib.Omega.{arith}
use mathlib.Core.Bool.{Bool, true, false, or-true}
use mathlib.Core.List.{List, [], ◌∷◌, ◌++◌, map}
use lib.Bits.{xor_shr}
use lib.Dec.{ltb}
use lib.ListN.{length, get_or, set, replicate}
use lib.Pow.{pow_pos, split}
use borrow.Author.Tests.{ltb-true, lt-ltb}
use Rattle.space.specs.Space.{◌⊕◌, sum_of, spans, set_of}
use Rattle.space.specs.Lists.{All}
use Rattle.space.proofs.Lists.{all_append, all_mono}
use Rattle.space.proofs.Linear.{map-sum}
use Rattle.space.proofs.Xor.{⊕_comm, ⊕_self, ⊕_zero}
use Rattle.space.proofs.Sets.{spans-sum, spans-through, spans-append, spans-snoc, set_of-sum}
use Rattle.basis.specs.Algorithm2.{pass}
use Rattle.basis.proofs.Digits.{Top}
use Rattle.basis.proofs.Passes.{Formed, pass_move, pass_zero}
use Rattle.basis.proofs.Slots.{formed_set, spans-set, all_set, formed_none, zeros_spanned}

-- ---- the key of a vector: what stands above its t lowest digits

unfoldable pub key : ℕ → ℕ → ℕ
key t x = x / 2 ^ t

pub key-⊕ : (t a b : ℕ) → key t (a ⊕ b) ≡ key t a ⊕ key t b
unfolding key ◌⊕◌
key-⊕ t a b = xor_shr a b t

pub key_low : (t x : ℕ) → x < 2 ^ t → key t x ≡ 0
unfolding key
key_low t x h = div-eq_of_lt h

low_key : (t x : ℕ) → key t x ≡ 0 → x < 2 ^ t
unfolding key
low_key t x e =
    let s : x / 2 ^ t * 2 ^ t + x % 2 ^ t ≡ x = split x t in
    let z : x / 2 ^ t * 2 ^ t ≡ 0 = ap (λ (y : ℕ). y * 2 ^ t) e ∙ zero-mul (2 ^ t) in
    omega (arith, mod-lt x (pow_pos t))

-- ---- slots that stand for vectors

pub record Stand (t : ℕ) (vs ss : List ℕ) : Type 0 where
  pub formed : Formed t ss
  pub there : All (spans vs) ss
  pub back : All (spans ss) vs

module _ (t : ℕ) (vs ss : List ℕ) (S : Stand t vs ss) where
  pub stand_move : (w : ℕ) → spans vs (w ⊕ (pass t ss w).vector) ≡ true
  stand_move w = spans-through ss vs S.there (w ⊕ (pass t ss w).vector) (pass_move t ss w)

  spans_of_low : (w : ℕ) → (pass t ss w).vector < 2 ^ t → spans (map (key t) vs) (key t w) ≡ true
  spans_of_low w h = rw (sums ∙ alike) at (spans-sum (map (key t) vs) (set_of vs (w ⊕ (pass t ss w).vector)))
    where
      sums : sum_of (map (key t) vs) (set_of vs (w ⊕ (pass t ss w).vector)) ≡ key t (w ⊕ (pass t ss w).vector)
      sums = map-sum (key t) (key-⊕ t) vs (set_of vs (w ⊕ (pass t ss w).vector)) ∙ ap (key t) (set_of-sum vs (w ⊕ (pass t ss w).vector) (stand_move w))

      alike : key t (w ⊕ (pass t ss w).vector) ≡ key t w
      alike = key-⊕ t w (pass t ss w).vector ∙ rw (key_low t (pass t ss w).vector h) (⊕_zero (key t w))

  low_of_spans : (w : ℕ) → spans (map (key t) vs) (key t w) ≡ true → (pass t ss w).vector < 2 ^ t
  low_of_spans w e = pass_zero t ss S.formed w x near_x (spans-through vs ss S.back x (spans-sum vs m))
    where
      m : List Bool
      m = set_of (map (key t) vs) (key t w)

      x : ℕ
      x = sum_of vs m

      key-x : key t x ≡ key t w
      key-x = sym (map-sum (key t) (key-⊕ t) vs m) ∙ set_of-sum (map (key t) vs) (key t w) e

      near_x : w ⊕ x < 2 ^ t
      near_x = low_key t (w ⊕ x) (key-⊕ t w x ∙ rw key-x (⊕_self (key t w)))

  -- no key is left exactly where the start's is a sum of the vectors'
  pub stand_test : (w : ℕ) → ltb (pass t ss w).vector (2 ^ t) ≡ spans (map (key t) vs) (key t w)
  stand_test w = go (ltb (pass t ss w).vector (2 ^ t)) refl (spans (map (key t) vs) (key t w)) refl
    where
      go : (a : Bool) → ltb (pass t ss w).vector (2 ^ t) ≡ a → (b : Bool) → spans (map (key t) vs) (key t w) ≡ b → a ≡ b
      go true p b q = sym (spans_of_low w (ltb-true (pass t ss w).vector (2 ^ t) p)) ∙ q
      go false p true q = sym p ∙ lt-ltb (pass t ss w).vector (2 ^ t) (low_of_spans w q)
      go false p false q = refl

  -- one vector more: v comes of w and the slots
  pub stand_keep : (i k v w : ℕ) → i + suc k ≡ length ss → get_or ss i 0 ≡ 0 → Top (t + k) w → spans ss (v ⊕ w) ≡ true → Stand t (vs ++ (v ∷ [])) (set ss i w)
  stand_keep i k v w e z h d =
      record {
        formed = formed_set t ss i k w e S.formed h;
        there = all_set (spans (vs ++ (v ∷ []))) w ss i (all_mono (spans vs) (spans (vs ++ (v ∷ []))) (spans-append vs (v ∷ [])) ss S.there) new;
        back = all_append (spans (set ss i w)) vs (v ∷ []) (all_mono (spans ss) (spans (set ss i w)) old vs S.back) (last, tt);
      }
    where
      inside : i < length ss
      inside = omega arith

      old : (x : ℕ) → spans ss x ≡ true → spans (set ss i w) x ≡ true
      old x p = spans-set ss i w x inside z ∙ rw p

      last : spans (set ss i w) v ≡ true
      last = spans-set ss i w v inside z ∙ rw d (or-true (spans ss v))

      new : spans (vs ++ (v ∷ [])) w ≡ true
      new = spans-snoc vs v w ∙ rw (⊕_comm w v) (rw (spans-through ss vs S.there (v ⊕ w) d) (or-true (spans vs w)))

-- empty slots stand for no vectors
pub stand_none : (t d : ℕ) → Stand t [] (replicate d 0)
stand_none t d = record { formed = formed_none t d; there = zeros_spanned d; back = tt }
