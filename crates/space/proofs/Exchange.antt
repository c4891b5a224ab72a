-- The exchange law: independent vectors are no more than vectors that span them. For the digits that say of which of those each is the sum
-- are as many independent vectors, of so many digits.
-- Assumes nothing.
use mathlib.Core.Path.{◌≡◌, refl, sym, ap₂, ◌∙◌}
use Prim.Native.Nat.{ℕ, suc, ◌+◌, ◌*◌, ◌/◌, ◌%◌, ◌^◌, ◌≤◌, ◌<◌}
use native.Mathlib.Nat.{pow-suc, zero-mul, one-mul}
use native.Mathlib.Omega.{arith}
use mathlib.Core.Bool.{Bool, true, false, cond, true≢false}
use mathlib.Core.Logic.{◌⊎◌, inl, inr}
use mathlib.Core.List.{List, [], ◌∷◌, map}
use lib.ListN.{length, length-map}
use borrow.Author.Tests.{eqb-true}
use Rattle.space.specs.Lists.{All}
use Rattle.space.specs.Space.{◌⊕◌, sum_by, spans, independent}
use Rattle.space.proofs.Lists.{below_map}
use Rattle.space.proofs.Xor.{⊕_comm, zero_⊕, ⊕_cancel}
use Rattle.space.proofs.Sets.{spans-cases}
use Rattle.space.proofs.SumBy.{sum_by-⊕}
use Rattle.space.proofs.Dimension.{independent-most}
use Rattle.space.proofs.Linear.{map_free}

-- ---- of which of ps a vector is the sum, in the digits of a number

unfoldable coords : List ℕ → ℕ → ℕ
coords [] v = 0
coords (p ∷ ps) v = cond (spans ps v) (coords ps v * 2) (coords ps (v ⊕ p) * 2 + 1)

coords_lt : (ps : List ℕ) (v : ℕ) → coords ps v < 2 ^ length ps
unfolding coords
coords_lt [] v = omega arith
coords_lt (p ∷ ps) v = go (spans ps v) (coords_lt ps v) (coords_lt ps (v ⊕ p))
  where
    go : (b : Bool) → coords ps v < 2 ^ length ps → coords ps (v ⊕ p) < 2 ^ length ps
        → cond b (coords ps v * 2) (coords ps (v ⊕ p) * 2 + 1) < 2 ^ suc (length ps)
    go true h k = omega (arith, pow-suc 2 (length ps))
    go false h k = omega (arith, pow-suc 2 (length ps))

module _ (p : ℕ) (ps : List ℕ) where
  sum_by_even : (x : ℕ) → sum_by (p ∷ ps) (x * 2) ≡ sum_by ps x
  unfolding sum_by
  sum_by_even x =
      let half : x * 2 / 2 ≡ x = omega arith in
      let digit : x * 2 % 2 ≡ 0 = omega arith in
      rw (half, digit, zero-mul) (zero_⊕ (sum_by ps x))

  sum_by_odd : (x : ℕ) → sum_by (p ∷ ps) (x * 2 + 1) ≡ p ⊕ sum_by ps x
  unfolding sum_by
  sum_by_odd x =
      let half : (x * 2 + 1) / 2 ≡ x = omega arith in
      let digit : (x * 2 + 1) % 2 ≡ 1 = omega arith in
      rw (half, digit, one-mul)

  sum_by-step : ((v : ℕ) → spans ps v ≡ true → sum_by ps (coords ps v) ≡ v) → (v : ℕ) (b : Bool) → spans ps v ≡ b
      → (spans ps v ≡ true) ⊎ (spans ps (v ⊕ p) ≡ true) → sum_by (p ∷ ps) (coords (p ∷ ps) v) ≡ v
  unfolding coords
  sum_by-step ih v true e h = rw e (sum_by_even (coords ps v) ∙ ih v e)
  sum_by-step ih v false e (inl h) = absurd (true≢false (sym h ∙ e))
  sum_by-step ih v false e (inr h) = rw e (sum_by_odd (coords ps (v ⊕ p)) ∙ rw (ih (v ⊕ p) h, ⊕_comm v p) (⊕_cancel p v))

coords-sum : (ps : List ℕ) (v : ℕ) → spans ps v ≡ true → sum_by ps (coords ps v) ≡ v
unfolding coords sum_by spans
coords-sum [] v h = sym (eqb-true v 0 h)
coords-sum (p ∷ ps) v h = sum_by-step p ps (coords-sum ps) v (spans ps v) refl (spans-cases p ps v h)

-- ---- the exchange law

-- independent vectors that ps span are no more than ps
pub no_more : (ps qs : List ℕ) → All (spans ps) qs → independent qs ≡ true → length qs ≤ length ps
no_more ps qs a i =
    rw (length-map qs (coords ps)) at (independent-most (length ps) (map (coords ps) qs) (below_map (2 ^ length ps) (coords ps) (coords_lt ps) qs)
    (map_free (sum_by ps) (sum_by-⊕ ps) (map (coords ps) qs) (rw (through qs a) i)))
  where
    through : (qs : List ℕ) → All (spans ps) qs → map (sum_by ps) (map (coords ps) qs) ≡ qs
    through [] a = refl
    through (q ∷ qs) a = ap₂ (λ x t. x ∷ t) (coords-sum ps q a.0) (through qs a.1)
