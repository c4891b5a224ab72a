-- A row with some payload bits flipped, of one page and of another: the second is the first with both pages added.
-- Assumes nothing.
use mathlib.Core.Path.{◌≡◌, sym, ap, ap₂, ◌∙◌}
use Prim.Native.Nat.{ℕ, ◌*◌, ◌^◌, ◌<◌}
use mathlib.Core.List.{List}
use lib.Bits.{xor_shifted}
use native.Mathlib.Nat.{div-eq_of_lt}
use lib.ListN.{length}
use Rattle.space.specs.Space.{◌⊕◌}
use Rattle.space.specs.Lists.{Below}
use Rattle.space.proofs.Xor.{⊕_assoc, ⊕_swap, ⊕_zero, ⊕_cancel_r}
use Rattle.space.proofs.SumBy.{sum_by_lt}
use Rattle.rows.specs.Rows.{constraint, named, made}
use Rattle.rows.specs.Shift.{shifted, plus}
use Rattle.rows.proofs.Sums.{constraint-⊕}
use Rattle.rows.proofs.Pages.{made-constraint}
use Rattle.rows.proofs.Shifts.{named-plus}

-- a row is the sum of its constraint, moved up, and its payload
made-sum : (l : ℕ) (page : List ℕ) → Below (2 ^ (8 * l)) page → (c : ℕ) → made l page c ≡ c * 2 ^ (8 * l) ⊕ named page c
unfolding made ◌⊕◌
made-sum l page b c = sym (xor_shifted c (8 * l) (named page c) (sum_by_lt (8 * l) page b c))

low_constraint : (l x : ℕ) → x < 2 ^ (8 * l) → constraint l x ≡ 0
unfolding constraint
low_constraint l x h = div-eq_of_lt h

pub flipped-constraint : (l : ℕ) (page : List ℕ) → Below (2 ^ (8 * l)) page → (c flips : ℕ) → flips < 2 ^ (8 * l) → constraint l (made l page c ⊕ flips) ≡ c
flipped-constraint l page b c flips h =
    constraint-⊕ l (made l page c) flips ∙ ap₂ (λ x y. x ⊕ y) (made-constraint l page b c) (low_constraint l flips h) ∙ ⊕_zero c

module _ (l : ℕ) (p q : List ℕ) (bp : Below (2 ^ (8 * l)) p) (bq : Below (2 ^ (8 * l)) q) (same : length p ≡ length q) where
  pub moved_row : (c flips : ℕ) → flips < 2 ^ (8 * l) → shifted l (plus p q) (made l p c ⊕ flips) ≡ made l q c ⊕ flips
  unfolding shifted
  moved_row c flips h =
      rw (flipped-constraint l p bp c flips h) (rw (named-plus p q same c) (rw (made-sum l p bp c) (rw (made-sum l q bq c) (turned (c * 2 ^ (8 * l)) (named p c) (named q c) flips))))
    where
      turned : (s x y f : ℕ) → s ⊕ x ⊕ f ⊕ (x ⊕ y) ≡ s ⊕ y ⊕ f
      turned s x y f =
          ap (λ (z : ℕ). z ⊕ (x ⊕ y)) (⊕_swap s x f) ∙ sym (⊕_assoc (s ⊕ f ⊕ x) x y) ∙ ap (λ (z : ℕ). z ⊕ y) (⊕_cancel_r (s ⊕ f) x) ∙ ⊕_swap s f y
