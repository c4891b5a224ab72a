-- Rows that go into slots, as numbers: the constraint is the key, the payload the tail.
use Rattle.std.specs.Prelude.{ℕ, ◌*◌, Bool, true, false, cond, List, [], ◌∷◌, ltb, length, set, replicate}
use Rattle.basis.specs.Algorithm2.{pass}
use Rattle.filling.specs.Fill.{Filled, leaves}

-- A row goes in where its pass stops at an empty slot: its constraint is no sum of those before.
unfoldable pub enters : ℕ → List ℕ → ℕ → Bool
enters l slots row = ltb (pass (8 * l) slots row).stop (length slots)

-- That slot then holds what the pass left of it.
unfoldable pub entered : ℕ → List ℕ → ℕ → List ℕ
entered l slots row = set slots (pass (8 * l) slots row).stop (pass (8 * l) slots row).vector

-- One after the other, up to the first that does not go in.
unfoldable pub fill : ℕ → List ℕ → List ℕ → Filled
fill l slots [] = leaves slots true
fill l slots (row ∷ rows) = cond (enters l slots row) (fill l (entered l slots row) rows) (leaves slots false)

-- A slot for each bit of a constraint, all empty.
unfoldable pub empty : List ℕ
empty = replicate 64 0
