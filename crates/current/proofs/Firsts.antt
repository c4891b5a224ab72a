-- The first entries of a list: how many there are, that their order takes arrivals among them alone and none twice, and that it takes the same rows of any
-- list that begins with them.
-- Assumes nothing.
use mathlib.Core.Path.{◌≡◌, sym, ap, ◌∙◌}
use mathlib.Core.List.{List}
use Prim.Native.Nat.{ℕ, ◌≤◌}
use native.Mathlib.Omega.{arith}
use lib.ListN.{length, take}
use Rattle.space.specs.Lists.{Below}
use Rattle.octets.proofs.Runs.{length-numbers}
use Rattle.octets.proofs.Views.{take-numbers}
use Rattle.rows.specs.Rows.{list_row_bytes}
use Rattle.reading.specs.Orders as orders
use Rattle.reading.proofs.Firsts.{taken-first}
use Rattle.order.proofs.Listed.{length-order}
use Rattle.holding.specs.Holds.{Distinct}
use Rattle.holding.proofs.Listed.{order-distinct, order_below}
use Rattle.current.specs.Current.{first_entries, order_of, taken_rows}

module _ (l rows : ℕ) (list : List ℕ) where
  pub length-firsts : length (first_entries l rows list) ≡ rows
  unfolding first_entries
  length-firsts = length-numbers (list_row_bytes l) rows list

  pub order-few : length (order_of l rows list) ≤ rows
  unfolding order_of
  order-few = omega (arith, length-order (first_entries l rows list), length-firsts)

  pub order-inside : Below rows (order_of l rows list)
  unfolding order_of
  order-inside = rw length-firsts at (order_below (first_entries l rows list))

  pub order-once : Distinct (order_of l rows list)
  unfolding order_of
  order-once = order-distinct (first_entries l rows list)

  pub taken_of : (k : ℕ) (other : List ℕ) → rows ≤ k → first_entries l rows other ≡ first_entries l rows list
      → orders.taken l (first_entries l k other) (order_of l rows list) ≡ taken_rows l rows list
  unfolding taken_rows
  taken_of k other h same =
      sym (taken-first l rows (first_entries l k other) (order_of l rows list) order-inside)
      ∙ ap (λ (es : List ℕ). orders.taken l es (order_of l rows list)) (first ∙ same)
    where
      first : take rows (first_entries l k other) ≡ first_entries l rows other
      first = unfold first_entries in take-numbers (list_row_bytes l) rows k other h
