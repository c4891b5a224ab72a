-- The check 4 as the reader makes it, of the rows.
use Rattle.std.specs.Prelude.{ℕ, cond, List, leb, Option, Some, None}
use Rattle.places.specs.declared.Arrival.{Arrival}
use Rattle.places.specs.Places.{most_rows}
use Rattle.rows.specs.Rows.{row_count, rows_of}
use Rattle.reading.specs.declared.Answer.TheVariants as answer
use Rattle.reading.specs.Outcome.{Check, passes, refuses, stray_from}

-- What check 4 then says: of a list of at most 512 rows, since a longer one is refused before.
unfoldable pub strays_in : ℕ → ℕ → List ℕ → Check
strays_in n l list = cond (leb (row_count l list) most_rows) (stray_from n l 0 (rows_of l list)) passes

-- What a row found, if there is one, says.
unfoldable pub stray_check : Option Arrival → Check
stray_check (Some arrival) = refuses (answer.Stray arrival)
stray_check None = passes
