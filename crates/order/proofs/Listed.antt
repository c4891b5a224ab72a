-- How many arrivals the list order takes at most. And what fits `in_list_order`, with its outcome either way.
-- Assumes nothing.
use mathlib.Core.Path.{◌≡◌, refl, sym, ◌∙◌}
use mathlib.Core.Bool.{true}
use mathlib.Core.List.{List}
use Prim.Native.Nat.{ℕ, ◌≤◌}
use native.Mathlib.Omega.{arith}
use lib.Dec.{leb}
use lib.ListN.{length}
use borrow.Author.Tests.{le-leb, leb-true}
use Rattle.space.proofs.Lists.{length-select, length-tabulate, marked_le}
use Rattle.space.proofs.Both.{both}
use Rattle.rows.specs.Rows.{row_count, entries_of}
use Rattle.rows.proofs.Lists.{length-entries_of}
use Rattle.reading.specs.Orders.{arrivals, counts, in_list_order}
use Rattle.reading.proofs.Counted.{length-counts}
use Rattle.state.specs.Layout.{state_bytes}
use Rattle.order.specs.Listed.{orderable, listed, taken_of, written, listed_state}

-- ---- no more than there are entries

pub length-order : (entries : List ℕ) → length (in_list_order entries) ≤ length entries
unfolding in_list_order arrivals
length-order entries =
    omega (arith, length-select (counts entries) (arrivals (length entries)) (length-counts entries ∙ sym (length-tabulate (length entries) (λ a. a))), marked_le (counts entries), length-counts entries)

pub length-listed : (l : ℕ) (list : List ℕ) → length (listed l list) ≤ row_count l list
length-listed l list = omega (arith, length-order (entries_of l list), length-entries_of l list)

-- ---- what fits

pub record Orders (m room : ℕ) : Type 0 where
  pub many : m ≤ 512
  pub whole : state_bytes ≤ room

pub orders_so : (m room : ℕ) → orderable m room ≡ true → Orders m room
unfolding orderable
orders_so m room e =
    let a : (leb m 512 ≡ true) × (leb state_bytes room ≡ true) = both _ _ e in
    record { many = leb-true m 512 a.0; whole = leb-true state_bytes room a.1 }

pub orders_when : (m room : ℕ) → Orders m room → orderable m room ≡ true
unfolding orderable
orders_when m room O = rw (le-leb m 512 O.many) (le-leb state_bytes room O.whole)

-- ---- the outcome

module _ (l : ℕ) (list state : List ℕ) where
  pub listed_so : orderable (row_count l list) (length state) ≡ true
      → (taken_of l list (length state) ≡ length (listed l list)) × (listed_state l list state ≡ written l (entries_of l list) state)
  unfolding taken_of listed_state
  listed_so e = rw e (refl, refl)
