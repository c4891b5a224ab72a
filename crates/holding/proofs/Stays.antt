-- What stays while rows are taken in, one after the other: the order in the state, and how long the state is.
-- Assumes nothing.
use mathlib.Core.Path.{◌≡◌, refl, ◌∙◌}
use mathlib.Core.List.{List, [], ◌∷◌}
use Prim.Native.Nat.{ℕ}
use lib.ListN.{length}
use Rattle.octets.specs.Octets.{number}
use Rattle.lists.specs.Lists.{row_at}
use Rattle.state.specs.Layout.{order_in}
use Rattle.echelon.specs.Eliminating.{Elimination, one_more, absorb_in}
use Rattle.echelon.proofs.Staying.{absorbed_order, absorbed_length}

module _ (l : ℕ) (list : List ℕ) where
  pub in_order : (n : ℕ) (order : List ℕ) (e : Elimination) → order_in n (absorb_in l list order e).state ≡ order_in n e.state
  unfolding absorb_in
  in_order n [] e = refl
  in_order n (a ∷ order) e = in_order n order (one_more l list a e) ∙ unfold one_more in absorbed_order (length (row_at l a list)) (number (row_at l a list)) a e.rank e.state n

  pub in_length : (order : List ℕ) (e : Elimination) → length (absorb_in l list order e).state ≡ length e.state
  unfolding absorb_in
  in_length [] e = refl
  in_length (a ∷ order) e = in_length order (one_more l list a e) ∙ unfold one_more in absorbed_length (length (row_at l a list)) (number (row_at l a list)) a e.rank e.state
