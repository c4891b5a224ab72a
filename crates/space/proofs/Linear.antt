-- A map that respects sums takes what vectors span to what their images span; one that takes only zero to zero changes no span, no set and no independence.
-- Assumes nothing.
use mathlib.Core.Path.{◌≡◌, refl, sym, ap, ◌∙◌}
use Prim.Native.Nat.{ℕ}
use mathlib.Core.Bool.{Bool, true, false}
use mathlib.Core.List.{List, [], ◌∷◌, map}
use lib.Dec.{eqb}
use borrow.Author.Tests.{eqb-true, eqb-false, eq-eqb, ne_eqb}
use Rattle.space.specs.Space.{◌⊕◌, sum_of, spans, set_of, independent}
use Rattle.space.proofs.Xor.{⊕_self, zero_⊕, ⊕_four}
use Rattle.space.proofs.Sets.{spans-sum, set_of-sum, first_free, rest_free, independent_cons}

module _ (φ : ℕ → ℕ) (add : (a b : ℕ) → φ (a ⊕ b) ≡ φ a ⊕ φ b) where
  pub map_zero : φ 0 ≡ 0
  map_zero = ap φ (sym (zero_⊕ 0)) ∙ add 0 0 ∙ ⊕_self (φ 0)

  pub map-sum : (ks : List ℕ) (set : List Bool) → sum_of (map φ ks) set ≡ φ (sum_of ks set)
  unfolding sum_of
  map-sum [] set = sym map_zero
  map-sum (k ∷ ks) [] = sym map_zero
  map-sum (k ∷ ks) (true ∷ set) = rw (add k (sum_of ks set)) (rw (map-sum ks set))
  map-sum (k ∷ ks) (false ∷ set) = map-sum ks set

  -- images span the image of what the vectors span
  pub map_spanned : (ks : List ℕ) (v : ℕ) → spans ks v ≡ true → spans (map φ ks) (φ v) ≡ true
  map_spanned ks v h = rw (map-sum ks (set_of ks v), set_of-sum ks v h) at (spans-sum (map φ ks) (set_of ks v))

  -- so vectors with independent images are independent
  pub map_free : (ks : List ℕ) → independent (map φ ks) ≡ true → independent ks ≡ true
  map_free [] i = unfold independent in refl
  map_free (k ∷ ks) i =
      independent_cons k ks (λ e. first_free (φ k) (map φ ks) i (map_spanned ks k e)) (map_free ks (rest_free (φ k) (map φ ks) i))

  module _ (inj : (v : ℕ) → φ v ≡ 0 → v ≡ 0) where
    zero_test : (v : ℕ) → eqb (φ v) 0 ≡ eqb v 0
    zero_test v = go (eqb v 0) refl
      where
        go : (b : Bool) → eqb v 0 ≡ b → eqb (φ v) 0 ≡ b
        go true e = eq-eqb (φ v) 0 (ap φ (eqb-true v 0 e) ∙ map_zero)
        go false e = ne_eqb (φ v) 0 (λ h. eqb-false v 0 e (inj v h))

    pub map-spans : (ks : List ℕ) (v : ℕ) → spans (map φ ks) (φ v) ≡ spans ks v
    unfolding spans
    map-spans [] v = zero_test v
    map-spans (k ∷ ks) v = rw (← add v k) (rw (map-spans ks v) (rw (map-spans ks (v ⊕ k))))

    pub map-set_of : (ks : List ℕ) (v : ℕ) → set_of (map φ ks) (φ v) ≡ set_of ks v
    unfolding set_of
    map-set_of [] v = refl
    map-set_of (k ∷ ks) v = rw (← add v k) (rw (map-spans ks v) (rw (map-set_of ks v) (rw (map-set_of ks (v ⊕ k)))))

    pub map-independent : (ks : List ℕ) → independent (map φ ks) ≡ independent ks
    unfolding independent
    map-independent [] = refl
    map-independent (k ∷ ks) = rw (map-spans ks k) (rw (map-independent ks))

-- two values of each vector, added
pub sum-plus : (f g : ℕ → ℕ) (xs : List ℕ) (set : List Bool) → sum_of (map (λ x. f x ⊕ g x) xs) set ≡ sum_of (map f xs) set ⊕ sum_of (map g xs) set
unfolding sum_of
sum-plus f g [] set = sym (zero_⊕ 0)
sum-plus f g (x ∷ xs) [] = sym (zero_⊕ 0)
sum-plus f g (x ∷ xs) (true ∷ set) = rw (sum-plus f g xs set) (⊕_four (f x) (g x) (sum_of (map f xs) set) (sum_of (map g xs) set))
sum-plus f g (x ∷ xs) (false ∷ set) = sum-plus f g xs set
