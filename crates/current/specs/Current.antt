-- When the working of a store is current. Document 02, wish 5: it "holds the rows, kept rows, their eliminated forms, uses and rank, true after each
-- offered frame".
use Rattle.std.specs.Prelude.{ℕ, ◌*◌, ◌≤◌, ◌≡◌, List, length}
use Rattle.space.specs.Lists.{Below}
use Rattle.octets.specs.Octets.{numbers}
use Rattle.places.specs.Places.{most_rows}
use Rattle.rows.specs.Rows.{list_row_bytes}
use Rattle.reading.specs.Reading as reading
use Rattle.reading.specs.Orders as orders
use Rattle.order.specs.Listed.{seeds_noted}
use Rattle.state.specs.Layout.{state_bytes, order_in, filter_in}
use Rattle.holding.specs.Holds.{Holds}

-- The first so many entries of a list.
unfoldable pub first_entries : ℕ → ℕ → List ℕ → List ℕ
first_entries l rows list = numbers (list_row_bytes l) rows list

-- The arrivals of the first so many rows that count, in list order, and their rows.
unfoldable pub order_of : ℕ → ℕ → List ℕ → List ℕ
order_of l rows list = orders.in_list_order (first_entries l rows list)

unfoldable pub taken_rows : ℕ → ℕ → List ℕ → List ℕ
taken_rows l rows list = orders.taken l (first_entries l rows list) (order_of l rows list)

-- Of a list with room for 512 rows, of which so many are there: how many count and how many are kept is as the two numbers say; the order and the filter of
-- seeds are theirs, and the working holds them.
pub record Current (l : ℕ) (list : List ℕ) (rows taken rank : ℕ) (working : List ℕ) : Type 0 where
  pub list_room : list_row_bytes l * most_rows ≤ length list
  pub list_low : Below 256 list
  pub many : rows ≤ most_rows
  pub size : length working ≡ state_bytes
  pub low : Below 256 working
  pub counted : taken ≡ length (order_of l rows list)
  pub ranked : rank ≡ reading.rank (taken_rows l rows list)
  pub order : order_in taken working ≡ order_of l rows list
  pub seeds : filter_in working ≡ seeds_noted l (first_entries l rows list)
  pub holds : Holds l (first_entries l most_rows list) (order_of l rows list) working
