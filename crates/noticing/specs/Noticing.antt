-- Which row of a store repeats an earlier one, as far as its seeds were noted. Document 02, wish 3: "A row equal to an earlier list row in seed,
-- constraint and payload".
use Rattle.std.specs.Prelude.{ℕ, Bool, false, cond, ◌&&◌, List}
use Rattle.words.specs.Words.{four_of}
use Rattle.lists.specs.Lists.{entry_at}
use Rattle.repeats.specs.Repeats.{repeated}
use Rattle.noting.specs.Noting.{noted_in, noted_state}
use Rattle.store.specs.Store.{is_store, list_in, working_in, with_working}

-- The seed of the row at an arrival number: the first four bytes of its entry.
unfoldable pub seed_in : ℕ → ℕ → List ℕ → ℕ
seed_in l arrival store = four_of (entry_at l arrival (list_in store))

-- Its seed may have been noted, and it is equal to an earlier row.
unfoldable pub is_repeat : ℕ → ℕ → List ℕ → Bool
is_repeat l arrival store = cond (is_store store) (noted_in (seed_in l arrival store) (working_in store) && repeated l arrival (list_in store)) false

-- The store with its seed noted.
unfoldable pub noticed : ℕ → ℕ → List ℕ → List ℕ
noticed l arrival store = cond (is_store store) (with_working (noted_state (seed_in l arrival store) (working_in store)) store) store
