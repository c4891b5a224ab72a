-- Where the entry of an arrival stands in a list, and where the row in it.
use Rattle.std.specs.Prelude.{ℕ, ◌+◌, ◌*◌, Bool, cond, ◌&&◌, List, leb, ltb, length, take, drop}
use Rattle.places.specs.Places.{most_rows}
use Rattle.rows.specs.Rows.{seed_bytes, list_row_bytes}

-- Whether a list has an entry at an arrival number: one of the first 512, and all of it.
unfoldable pub is_entry : ℕ → ℕ → List ℕ → Bool
is_entry l arrival list = ltb arrival most_rows && leb (arrival * list_row_bytes l + list_row_bytes l) (length list)

-- Where it begins, and how long it is.
unfoldable pub start_of : ℕ → ℕ → List ℕ → ℕ
start_of l arrival list = cond (is_entry l arrival list) (arrival * list_row_bytes l) 0

unfoldable pub size_of : ℕ → ℕ → List ℕ → ℕ
size_of l arrival list = cond (is_entry l arrival list) (list_row_bytes l) 0

unfoldable pub entry_at : ℕ → ℕ → List ℕ → List ℕ
entry_at l arrival list = take (size_of l arrival list) (drop (start_of l arrival list) list)

-- The row of an entry stands behind its seed.
unfoldable pub row_start : ℕ → ℕ → List ℕ → ℕ
row_start l arrival list = cond (is_entry l arrival list) (arrival * list_row_bytes l + seed_bytes) 0

unfoldable pub row_at : ℕ → ℕ → List ℕ → List ℕ
row_at l arrival list = drop seed_bytes (entry_at l arrival list)
