-- Which rows of a list repeat an earlier one.
use Rattle.std.specs.Prelude.{ℕ, Bool, ◌&&◌, List, take, get_or}
use Rattle.rows.specs.Rows.{entries_of}
use Rattle.lists.specs.Lists.{is_entry}
use Rattle.reading.specs.Orders.{among}

-- Document 02, wish 3: "A row equal to an earlier list row in seed, constraint and payload". Where the list has no such row, it is none.
unfoldable pub repeated : ℕ → ℕ → List ℕ → Bool
repeated l arrival list = is_entry l arrival list && among (take arrival (entries_of l list)) (get_or (entries_of l list) arrival 0)
