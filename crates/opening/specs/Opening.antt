-- Opening a store. Document 02, wish 5: "opened for a page number, n and L"; "opening gives 1 then 3"; "Opening again forgets everything."
use Rattle.std.specs.Prelude.{ℕ, cond, not, Result, Ok, Err, List, [], ◌∷◌, ◌++◌, replicate}
use Rattle.octets.specs.Octets.{bytes, over}
use Rattle.rows.specs.Rows.{shape}
use Rattle.store.specs.Store.{store_bytes, is_store}
use Rattle.opening.specs.declared.Refusal.{Refusal}
use Rattle.opening.specs.declared.Refusal.TheVariants.{Shape, Room}

-- Document 02's number for each answer.
unfoldable pub number_of : Result Unit Refusal → ℕ
number_of (Ok _) = 0
number_of (Err Shape) = 1
number_of (Err Room) = 3

unfoldable pub open_answer : ℕ → ℕ → List ℕ → Result Unit Refusal
open_answer n l store = cond (not (shape n l)) (Err Shape) (cond (not (is_store store)) (Err Room) (Ok tt))

-- A store with no rows and no page: zeros throughout.
unfoldable pub blank : List ℕ
blank = replicate store_bytes 0

-- The page number, n and L at its start, and nothing else; what stands behind a store stays. A refusal changes nothing.
unfoldable pub after : Result Unit Refusal → ℕ → ℕ → ℕ → List ℕ → List ℕ
after (Ok _) page n l store = over (bytes 4 page ++ (n ∷ l ∷ [])) (over blank store)
after (Err _) page n l store = store

unfoldable pub opened_store : ℕ → ℕ → ℕ → List ℕ → List ℕ
opened_store page n l store = after (open_answer n l store) page n l store
