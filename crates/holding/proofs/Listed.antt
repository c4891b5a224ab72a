-- The list order: it takes arrivals of the list and none twice, and after `order::in_list_order` it stands in the state.
-- Assumes nothing.
use mathlib.Core.Path.{◌≡◌, refl, ap, ◌∙◌}
use mathlib.Core.List.{List}
use Prim.Native.Nat.{ℕ, ◌+◌, ◌≤◌}
use native.Mathlib.Omega.{arith}
use lib.ListN.{length}
use Rattle.space.specs.Lists.{Below}
use Rattle.space.proofs.Lists.{select_below, below_more}
use Rattle.octets.specs.Octets.{flat, lay}
use Rattle.octets.proofs.Runs.{length-flat}
use Rattle.octets.proofs.Lay.{length-lay}
use Rattle.rows.specs.Rows.{row_count, entries_of}
use Rattle.rows.proofs.Lists.{length-entries_of}
use Rattle.reading.specs.Orders.{arrivals, counts, in_list_order}
use Rattle.state.specs.Layout.{order_at, filter_at, state_bytes, order_in}
use Rattle.state.proofs.Sizes.{sizes}
use Rattle.views.proofs.Laid.{pairs-before, pairs_anew}
use Rattle.order.specs.Listed.{listed, taken_of, seeds_noted, written, listed_state}
use Rattle.order.proofs.Listed.{length-listed, orders_when, listed_so}
use Rattle.order.proofs.Seeds.{length-seeds}
use Rattle.holding.specs.Holds.{Distinct}
use Rattle.holding.proofs.Once.{select-distinct, arrivals-distinct, arrivals_below}

-- of any entries
module _ (entries : List ℕ) where
  pub order-distinct : Distinct (in_list_order entries)
  unfolding in_list_order
  order-distinct = select-distinct (counts entries) (arrivals (length entries)) (arrivals-distinct (length entries))

  pub order_below : Below (length entries) (in_list_order entries)
  unfolding in_list_order
  order_below = select_below (length entries) (counts entries) (arrivals (length entries)) (arrivals_below (length entries))

-- of a list
module _ (l : ℕ) (list : List ℕ) where
  abbrev entries : List ℕ
  entries = entries_of l list

  pub listed-distinct : Distinct (listed l list)
  listed-distinct = order-distinct entries

  pub listed_below : Below (row_count l list) (listed l list)
  listed_below = rw (← length-entries_of l list) (order_below entries)

  module _ (state : List ℕ) (many : row_count l list ≤ 512) (whole : state_bytes ≤ length state) where
    so : (taken_of l list (length state) ≡ length (listed l list)) × (listed_state l list state ≡ written l (entries_of l list) state)
    so = listed_so l list state (orders_when (row_count l list) (length state) (record { many = many; whole = whole }))

    pub listed-taken : taken_of l list (length state) ≤ row_count l list
    listed-taken = omega (arith, so.0, length-listed l list)

    -- the state with the order, and the filter behind it
    abbrev base : List ℕ
    base = lay order_at (flat 2 (listed l list)) state

    base-length : length base ≡ length state
    base-length = length-lay order_at (flat 2 (listed l list)) state (omega (arith, sizes, length-flat 2 (listed l list), length-listed l list))

    is : listed_state l list state ≡ lay filter_at (seeds_noted l (entries_of l list)) base
    is = so.1 ∙ unfold written in refl

    fits : filter_at + length (seeds_noted l (entries_of l list)) ≤ length base
    fits = omega (arith, sizes, length-seeds l (entries_of l list), base-length)

    pub listed-length : length (listed_state l list state) ≡ length state
    listed-length = ap length is ∙ length-lay filter_at (seeds_noted l (entries_of l list)) base fits ∙ base-length

    pub listed-order : order_in (taken_of l list (length state)) (listed_state l list state) ≡ listed l list
    unfolding order_in
    listed-order =
        rw (is, so.0) (pairs-before filter_at (seeds_noted l (entries_of l list)) base fits order_at (length (listed l list)) (omega (arith, sizes, length-listed l list))
        ∙ pairs_anew order_at (length (listed l list)) (listed l list) state refl (below_more (row_count l list) 65536 (omega arith) (listed l list) listed_below) (omega (arith, sizes)))
