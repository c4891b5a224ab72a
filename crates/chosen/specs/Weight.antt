-- How the code counts rows and sees a stray one at once: what the private steps give.
use Rattle.std.specs.Prelude.{ℕ, ◌+◌, cond, List, [], ◌∷◌}
use Rattle.rows.specs.Rows.{constraint}
use Rattle.rows.specs.Bytes.{stray}

-- A row counts as one, and a stray one as 64 more, so that no page has as many symbols.
unfoldable pub weight : ℕ → ℕ → List ℕ → ℕ
weight n l [] = 0
weight n l (row ∷ rows) = cond (stray n (constraint l row)) 65 1 + weight n l rows
