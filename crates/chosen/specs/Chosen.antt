-- The rows of a list whose role is 2, and when they can give a page: document 01, "How a list is read"; n is the number of symbols and l
-- the bytes of one.
use Rattle.std.specs.Prelude.{ℕ, Bool, ◌&&◌, List, map, eqb, leb, length}
use Rattle.space.specs.Lists.{select, count}
use Rattle.rows.specs.Rows.{shape, row_count, rows_of, constraint}
use Rattle.rows.specs.Bytes.{stray}
use Rattle.reading.specs.Outcome.{whole_rows}

-- "roles (0 not kept, 1 kept, 2 picked ..)": the rows whose role is 2.
unfoldable pub chosen : List ℕ → List ℕ → List ℕ
chosen roles rows = select (map (λ role. eqb role 2) roles) rows

-- The shape is in range, the list has whole rows, at most 512, and there is a role for each.
unfoldable pub listed : ℕ → ℕ → List ℕ → List ℕ → Bool
listed n l list roles = shape n l && (whole_rows l list && leb (row_count l list) (length roles))

-- No row has "a constraint bit worth 2^n or more".
unfoldable pub within : ℕ → ℕ → List ℕ → Bool
within n l rows = eqb (count (λ row. stray n (constraint l row)) rows) 0

-- As many rows as there are symbols, and none strays.
unfoldable pub enough : ℕ → ℕ → List ℕ → Bool
enough n l rows = eqb (length rows) n && within n l rows

-- The rows with role 2 of such a list are n, and none of them strays.
unfoldable pub proper : ℕ → ℕ → List ℕ → List ℕ → Bool
proper n l list roles = listed n l list roles && enough n l (chosen roles (rows_of l list))
