-- What solving is: from the rows of a list with role 2 to the page. Document 01, "How a list is read"; n is the number of symbols and l the
-- bytes of one. Nothing here says how the page is found, so that any other way to find it has the same contract.
use Rattle.std.specs.Prelude.{ℕ, ◌*◌, Bool, cond, ◌&&◌, List, map, leb, length, replicate, Result, Ok, Err}
use Rattle.space.specs.Space.{independent}
use Rattle.octets.specs.Octets.{flat, over}
use Rattle.rows.specs.Rows.{rows_of, constraint}
use Rattle.reading.specs.Reading.{page_of}
use Rattle.chosen.specs.Chosen.{chosen, proper}
use Rattle.entering.specs.Enter.{slot_bytes}
use Rattle.solve.specs.declared.Unsolved.{Unsolved}
use Rattle.solve.specs.declared.Unsolved.TheVariants.{Singular, Misfit}

-- The rows with role 2 are n that name no symbol past the page, and there is room for slots and page.
unfoldable pub solvable : ℕ → ℕ → List ℕ → List ℕ → List ℕ → List ℕ → Bool
solvable n l list roles slots page = proper n l list roles && (leb slot_bytes (length slots) && leb (n * l) (length page))

-- Where the constraints of these rows are independent there is a page; if not it is 7, "picked constraints dependent".
unfoldable pub solve_answer : ℕ → ℕ → List ℕ → List ℕ → List ℕ → List ℕ → Result (Unit {0}) Unsolved
solve_answer n l list roles slots page =
    cond (solvable n l list roles slots page) (cond (independent (map (constraint l) (chosen roles (rows_of l list)))) (Ok tt) (Err Singular)) (Err Misfit)

-- The page afterwards: the one that these rows give, "into the first nL bytes."
unfoldable pub solve_page : Result (Unit {0}) Unsolved → ℕ → ℕ → List ℕ → List ℕ → List ℕ → List ℕ
solve_page (Ok _) n l list roles page = over (flat l (page_of n l (chosen roles (rows_of l list)))) page
solve_page (Err _) n l list roles page = page

-- The slots afterwards: cleared, whatever stood there.
unfoldable pub solve_slots : Result (Unit {0}) Unsolved → List ℕ → List ℕ
solve_slots (Ok _) slots = over (replicate slot_bytes 0) slots
solve_slots (Err Singular) slots = over (replicate slot_bytes 0) slots
solve_slots (Err Misfit) slots = slots
