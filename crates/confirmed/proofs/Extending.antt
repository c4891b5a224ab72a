-- A value for each of n rows with independent constraints, extended to every row: the sum of the values of those rows whose constraints sum
-- to its own. It respects sums. Added to each row, values without a constraint give a one-to-one map that respects sums and keeps constraints.
-- Assumes nothing.
use mathlib.Core.Path.{◌≡◌, sym, ap, ◌∙◌}
use Prim.Native.Nat.{ℕ, ◌*◌, ◌%◌, ◌^◌, ◌<◌}
use native.Mathlib.Nat.{mod-lt, mod-eq_of_lt, div-eq_of_lt}
use mathlib.Core.Bool.{true}
use mathlib.Core.List.{List, map, Memᴰ}
use lib.Bits.{xor_mod}
use lib.ListN.{length, length-map}
use lib.Pow.{pow_pos}
use Rattle.space.specs.Lists.{Below}
use Rattle.space.specs.Space.{◌⊕◌, sum_of, spans, set_of, independent}
use Rattle.space.proofs.Lists.{below_map, below_map_at}
use Rattle.space.proofs.Xor.{⊕_zero, ⊕_four}
use Rattle.space.proofs.Sets.{sum_lt, set_of_unique, sum-set_of-⊕, set_at, length_set_at, sum_set_at}
use Rattle.space.proofs.Dimension.{spans_all}
use Rattle.space.proofs.Linear.{map_zero}
use Rattle.rows.specs.Rows.{constraint}
use Rattle.rows.proofs.Sums.{constraint-⊕, constraint_zero}

module _ (n l : ℕ) (ks : List ℕ) (inside : Below (2 ^ n) (map (constraint l) ks)) (free : independent (map (constraint l) ks) ≡ true) (size : length ks ≡ n)
    (value : ℕ → ℕ) where
  -- of a constraint; only its first n digits count
  unfoldable extended : ℕ → ℕ
  extended c = sum_of (map value ks) (set_of (map (constraint l) ks) (c % 2 ^ n))

  extended-⊕ : (a b : ℕ) → extended (a ⊕ b) ≡ extended a ⊕ extended b
  unfolding extended
  extended-⊕ a b =
      ap (λ (c : ℕ). sum_of (map value ks) (set_of (map (constraint l) ks) c)) digits
      ∙ sum-set_of-⊕ (map (constraint l) ks) (map value ks) free (a % 2 ^ n) (b % 2 ^ n) (spanning a) (spanning b)
    where
      digits : (a ⊕ b) % 2 ^ n ≡ a % 2 ^ n ⊕ b % 2 ^ n
      digits = unfold ◌⊕◌ in xor_mod a b n

      spanning : (c : ℕ) → spans (map (constraint l) ks) (c % 2 ^ n) ≡ true
      spanning c = spans_all n (map (constraint l) ks) inside free (length-map ks (constraint l) ∙ size) (c % 2 ^ n) (mod-lt c (pow_pos n))

  -- its own value for each of the rows
  extended-own : {k : ℕ} → Memᴰ k ks → extended (constraint l k) ≡ value k
  unfolding extended
  extended-own {k} m =
      ap (λ (c : ℕ). sum_of (map value ks) (set_of (map (constraint l) ks) c)) (mod-eq_of_lt (below_map_at (2 ^ n) (constraint l) ks inside k m))
      ∙ ap (sum_of (map value ks)) (sym (set_of_unique (map (constraint l) ks) free (constraint l k) (set_at m) (length_set_at m ∙ sym (length-map ks (constraint l))) (sum_set_at (constraint l) m)))
      ∙ sum_set_at value m

  -- ---- added to each row

  pub moved : ℕ → ℕ
  moved v = v ⊕ extended (constraint l v)

  pub moved-⊕ : (a b : ℕ) → moved (a ⊕ b) ≡ moved a ⊕ moved b
  unfolding moved
  moved-⊕ a b =
      ap (λ (x : ℕ). a ⊕ b ⊕ x) (ap extended (constraint-⊕ l a b) ∙ extended-⊕ (constraint l a) (constraint l b))
      ∙ ⊕_four a b (extended (constraint l a)) (extended (constraint l b))

  pub moved-own : {k : ℕ} → Memᴰ k ks → moved k ≡ k ⊕ value k
  unfolding moved
  moved-own {k} m = ap (λ (x : ℕ). k ⊕ x) (extended-own m)

  module _ (bare : (k : ℕ) → value k < 2 ^ (8 * l)) where
    pub moved-constraint : (v : ℕ) → constraint l (moved v) ≡ constraint l v
    unfolding moved
    moved-constraint v = constraint-⊕ l v (extended (constraint l v)) ∙ ap (λ (x : ℕ). constraint l v ⊕ x) none ∙ ⊕_zero (constraint l v)
      where
        none : constraint l (extended (constraint l v)) ≡ 0
        none = unfold constraint extended in div-eq_of_lt (sum_lt (8 * l) (map value ks) (below_map (2 ^ (8 * l)) value bare ks) _)

    -- only zero becomes zero
    pub moved_inj : (v : ℕ) → moved v ≡ 0 → v ≡ 0
    unfolding moved
    moved_inj v e = sym (ap (λ (x : ℕ). v ⊕ x) (ap extended plain ∙ map_zero extended extended-⊕) ∙ ⊕_zero v) ∙ e
      where
        plain : constraint l v ≡ 0
        plain = sym (moved-constraint v) ∙ ap (constraint l) e ∙ constraint_zero l
