-- The rows of a list with role 2, as they go into slots one after the other; in bytes.
use Rattle.std.specs.Prelude.{ℕ, Bool, true, false, cond, ◌&&◌, List, [], ◌∷◌, map, leb, length}
use Rattle.octets.specs.Octets.{bytes}
use Rattle.rows.specs.Rows.{row_bytes, row_count, rows_of}
use Rattle.reading.specs.Outcome.{whole_rows}
use Rattle.chosen.specs.Chosen.{chosen}
use Rattle.entering.specs.Enter.{enter_answer, enter_slots}

-- What comes of rows that go in: the slots, and whether all went in.
pub record Filled : Type 0 where
  pub slots : List ℕ
  pub all : Bool

abbrev pub leaves : List ℕ → Bool → Filled
leaves slots all = record { slots = slots; all = all }

-- One after the other, up to the first that does not go in.
unfoldable pub fill_rows : List ℕ → List (List ℕ) → Filled
fill_rows slots [] = leaves slots true
fill_rows slots (row ∷ rows) = cond (enter_answer slots row) (fill_rows (enter_slots slots row) rows) (leaves slots false)

-- The bytes of rows with a payload of l bytes.
abbrev pub rows_bytes : ℕ → List ℕ → List (List ℕ)
rows_bytes l rows = map (bytes (row_bytes l)) rows

-- The list has whole rows, at most 512, and there is a role for each.
unfoldable pub fillable : ℕ → List ℕ → List ℕ → Bool
fillable l list roles = whole_rows l list && leb (row_count l list) (length roles)

-- The rows with role 2 of such a list; none of any other goes in.
unfoldable pub fill_of : ℕ → List ℕ → List ℕ → List ℕ → Filled
fill_of l list roles slots = cond (fillable l list roles) (fill_rows slots (rows_bytes l (chosen roles (rows_of l list)))) (leaves slots false)
