-- What rows that agree with a page span agrees with it: agreeing passes through sums, since both sides of its equation do.
-- Assumes nothing.
use mathlib.Core.Path.{◌≡◌, sym, ap, ap₂, ◌∙◌}
use Prim.Native.Nat.{ℕ}
use mathlib.Core.Bool.{Bool, true}
use mathlib.Core.List.{List}
use borrow.Author.Tests.{eqb-true, eq-eqb}
use Rattle.space.specs.Lists.{All}
use Rattle.space.specs.Space.{◌⊕◌, sum_of, spans}
use Rattle.space.proofs.Closed.{closed_sum, closed_span}
use Rattle.space.proofs.Linear.{map_zero}
use Rattle.space.proofs.SumBy.{sum_by-⊕, sum_by_zero}
use Rattle.rows.specs.Rows.{constraint, payload, named, agrees}
use Rattle.rows.proofs.Sums.{constraint-⊕, payload-⊕, constraint_zero}

module _ (l : ℕ) (page : List ℕ) where
  agrees_zero : agrees l page 0 ≡ true
  unfolding agrees
  agrees_zero = rw (map_zero (payload l) (payload-⊕ l), constraint_zero l, sum_by_zero page)

  pub agrees-⊕ : (a b : ℕ) → agrees l page a ≡ true → agrees l page b ≡ true → agrees l page (a ⊕ b) ≡ true
  unfolding agrees
  agrees-⊕ a b p q =
      eq-eqb (payload l (a ⊕ b)) (named page (constraint l (a ⊕ b))) (payload-⊕ l a b
      ∙ ap₂ (λ x y. x ⊕ y) (eqb-true (payload l a) (named page (constraint l a)) p) (eqb-true (payload l b) (named page (constraint l b)) q)
      ∙ sym (ap (named page) (constraint-⊕ l a b) ∙ sum_by-⊕ page (constraint l a) (constraint l b)))

  -- a sum of rows that agree agrees
  pub agrees-sum : (rows : List ℕ) → All (agrees l page) rows → (set : List Bool) → agrees l page (sum_of rows set) ≡ true
  agrees-sum = closed_sum (agrees l page) agrees_zero agrees-⊕

  -- and so does what they span
  pub agrees_span : (rows : List ℕ) → All (agrees l page) rows → (r : ℕ) → spans rows r ≡ true → agrees l page r ≡ true
  agrees_span = closed_span (agrees l page) agrees_zero agrees-⊕
