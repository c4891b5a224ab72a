-- A second page added to the rows of a list. Demand 3.
use Rattle.std.specs.Prelude.{ℕ, List, [], ◌∷◌, map}
use Rattle.space.specs.Space.{◌⊕◌}
use Rattle.octets.specs.Octets.{flat}
use Rattle.rows.specs.Rows.{list_row_bytes, entries_of, vector, constraint, named}

-- "Add to each row's payload what the second page gives for that row's symbols."
unfoldable pub shifted : ℕ → List ℕ → ℕ → ℕ
shifted l second row = row ⊕ named second (constraint l row)

-- Of an entry of a list: what is no payload stays.
unfoldable pub shifted_entry : ℕ → List ℕ → ℕ → ℕ
shifted_entry l second entry = entry ⊕ named second (constraint l (vector l entry))

unfoldable pub shifted_list : ℕ → List ℕ → List ℕ → List ℕ
shifted_list l second list = flat (list_row_bytes l) (map (shifted_entry l second) (entries_of l list))

-- Two pages added, symbol by symbol.
unfoldable pub plus : List ℕ → List ℕ → List ℕ
plus [] q = []
plus (s ∷ p) [] = []
plus (s ∷ p) (t ∷ q) = s ⊕ t ∷ plus p q
