-- The list order written in a state: `in_list_order` of the code.
use Rattle.std.specs.Prelude.{ℕ, ◌+◌, ◌≤◌, ◌<◌, ◌≡◌, Bool, cond, ◌&&◌, List, map, leb, length, take, get_or, replicate}
use Rattle.octets.specs.Octets.{flat, lay}
use Rattle.places.specs.Places.{most_rows}
use Rattle.filter.specs.Filter.{filter_bytes, noting}
use Rattle.rows.specs.Rows.{row_count, entries_of, seed}
use Rattle.reading.specs.Orders.{in_list_order}
use Rattle.repeats.specs.Repeats.{repeated}
use Rattle.state.specs.Layout.{order_at, filter_at, state_bytes, filter_in}
use Rattle.noting.specs.Noting.{ordered_state, noted_state}

-- Whether the arrivals of so many rows can stand in a state of so many bytes.
unfoldable pub orderable : ℕ → ℕ → Bool
orderable m room = leb m most_rows && leb state_bytes room

-- The arrival numbers that are taken of a list.
abbrev pub listed : ℕ → List ℕ → List ℕ
listed l list = in_list_order (entries_of l list)

-- How many are taken; none where they can't stand in the state.
unfoldable pub taken_of : ℕ → List ℕ → ℕ → ℕ
taken_of l list room = cond (orderable (row_count l list) room) (length (listed l list)) 0

-- The filter in which the seeds of entries are noted, and no others.
unfoldable pub seeds_noted : ℕ → List ℕ → List ℕ
seeds_noted l entries = noting (map (seed l) entries) (replicate filter_bytes 0)

-- A state with the arrivals that are taken of these entries in its order, two bytes each, and with their seeds in its filter; all other bytes stay.
unfoldable pub written : ℕ → List ℕ → List ℕ → List ℕ
written l entries state = lay filter_at (seeds_noted l entries) (lay order_at (flat 2 (in_list_order entries)) state)

unfoldable pub listed_state : ℕ → List ℕ → List ℕ → List ℕ
listed_state l list state = cond (orderable (row_count l list) (length state)) (written l (entries_of l list) state) state

-- ---- one row more

-- What it asks: the list has the row, and no more than can be taken, and the filter of the state has the seeds of all earlier rows.
pub record Next (l : ℕ) (list : List ℕ) (arrival : ℕ) (state : List ℕ) : Type 0 where
  pub has : arrival < row_count l list
  pub many : row_count l list ≤ most_rows
  pub whole : state_bytes ≤ length state
  pub noted : filter_in state ≡ seeds_noted l (take arrival (entries_of l list))

-- Its seed.
unfoldable pub seed_at : ℕ → List ℕ → ℕ → ℕ
seed_at l list arrival = seed l (get_or (entries_of l list) arrival 0)

-- How many are taken after it, of those that were before, and the state.
unfoldable pub taken_next : ℕ → List ℕ → ℕ → ℕ → ℕ
taken_next l list arrival taken = cond (repeated l arrival list) taken (taken + 1)

unfoldable pub taken_state : ℕ → List ℕ → ℕ → ℕ → List ℕ → List ℕ
taken_state l list arrival taken state =
    cond (repeated l arrival list) (noted_state (seed_at l list arrival) state) (ordered_state taken arrival (noted_state (seed_at l list arrival) state))
