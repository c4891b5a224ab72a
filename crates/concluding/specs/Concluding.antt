-- What the tail asks, so that it ends as the reading does.
use Rattle.std.specs.Prelude.{ℕ, ◌*◌, ◌^◌, ◌≤◌, ◌≡◌, true, List, map, length}
use Rattle.space.specs.Lists.{Below}
use Rattle.rows.specs.Rows.{shape, row_count, entries_of, rows_of, constraint}
use Rattle.places.specs.Places.{most_rows}
use Rattle.reading.specs.Outcome.{whole_rows}
use Rattle.state.specs.Layout.{state_bytes, order_in}
use Rattle.holding.specs.Holds.{Holds, Distinct}

-- A list of bytes that passes the checks; an order of its arrivals, none taken twice, that stands in a state; and room.
pub record Ordered (n l : ℕ) (list order : List ℕ) (taken : ℕ) (state roles page : List ℕ) : Type 0 where
  pub shaped : shape n l ≡ true
  pub rows_whole : whole_rows l list ≡ true
  pub inside : Below (2 ^ n) (map (constraint l) (rows_of l list))
  pub bytes : Below 256 list
  pub few : taken ≤ most_rows
  pub whole : state_bytes ≤ length state
  pub stands : order_in taken state ≡ order
  pub arrivals : Below (row_count l list) order
  pub distinct : Distinct order
  pub roles_room : row_count l list ≤ length roles
  pub page_room : n * l ≤ length page

-- Such a list, and a state of bytes that holds its rows, taken in the order that stands there.
pub record Concludes (n l : ℕ) (list order : List ℕ) (taken : ℕ) (state roles page : List ℕ) : Type 0 where
  pub ordered : Ordered n l list order taken state roles page
  pub low : Below 256 state
  pub holds : Holds l (entries_of l list) order state
