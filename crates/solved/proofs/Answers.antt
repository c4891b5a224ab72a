-- For rows with role 2 that are the picked ones, in whatever order they were taken: solving is asked for a page that it can find, answers Singular
-- exactly where the reading is singular, and writes the reading's page else.
-- Assumes nothing.
use mathlib.Core.Path.{◌≡◌, refl, ap, ◌∙◌}
use Prim.Native.Nat.{ℕ, ◌*◌, ◌^◌, ◌≤◌}
use mathlib.Core.Bool.{Bool, true, false, cond, not}
use mathlib.Core.List.{List, map}
use lib.Dec.{eqb}
use lib.ListN.{length}
use borrow.Author.Tests.{le-leb, not-false}
use Rattle.space.specs.Lists.{Below}
use Rattle.space.specs.Space.{independent}
use Rattle.space.proofs.Lists.{select_below, select-map}
use Rattle.octets.specs.Octets.{flat, over}
use Rattle.rows.specs.Rows.{shape, row_count, rows_of, constraint}
use Rattle.reading.specs.Reading.{picked_rows, page_of, tie, singular}
use Rattle.reading.specs.Outcome.{whole_rows}
use Rattle.reading.proofs.Pick.{picked-size}
use Rattle.same_page.specs.SameRows.{SameRows}
use Rattle.same_page.proofs.Reordered.{rows_free, rows-page}
use Rattle.chosen.specs.Chosen.{chosen}
use Rattle.chosen.proofs.Within.{proper_when}
use Rattle.entering.specs.Enter.{slot_bytes}
use Rattle.std.specs.Prelude.{Result, Ok, Err}
use Rattle.solve.specs.declared.Unsolved.{Unsolved}
use Rattle.solve.specs.declared.Unsolved.TheVariants.{Singular}
use Rattle.solve.specs.Solve.{solvable, solve_answer, solve_page}

module _ (n l : ℕ) (list roles rows : List ℕ) (same : SameRows (chosen roles (rows_of l list)) (picked_rows n rows)) (one : tie n rows ≡ false)
    (inside : Below (2 ^ n) (map (constraint l) (rows_of l list))) where
  size : length (chosen roles (rows_of l list)) ≡ n
  size = same.size ∙ picked-size n rows one

  chosen-inside : Below (2 ^ n) (map (constraint l) (chosen roles (rows_of l list)))
  unfolding chosen
  chosen-inside =
      rw (← select-map (constraint l) (map (λ role. eqb role 2) roles) (rows_of l list)) (select_below (2 ^ n) (map (λ role. eqb role 2) roles) (map (constraint l) (rows_of l list)) inside)

  -- a list that passes, without a tie, and room
  pub picked-solvable : shape n l ≡ true → whole_rows l list ≡ true → row_count l list ≤ length roles → (slots page : List ℕ) → slot_bytes ≤ length slots → n * l ≤ length page
      → solvable n l list roles slots page ≡ true
  unfolding solvable
  picked-solvable shaped whole known slots page wide room =
      rw (proper_when n l list roles (record { shaped = shaped; rows_whole = whole; known = known; size = size; inside = chosen-inside }))
      (rw (le-leb slot_bytes (length slots) wide) (le-leb (n * l) (length page) room))

  pub solve_answer_lem : (slots page : List ℕ) → solvable n l list roles slots page ≡ true → solve_answer n l list roles slots page ≡ cond (singular n l rows) (Err Singular) (Ok tt)
  unfolding solve_answer singular
  solve_answer_lem slots page fit = rw (fit, rows_free l (chosen roles (rows_of l list)) (picked_rows n rows) same) (turned (independent (map (constraint l) (picked_rows n rows))))
    where
      turned : (b : Bool) → ◌≡◌ {A = Result (Unit {0}) Unsolved} (cond b (Ok tt) (Err Singular)) (cond (not b) (Err Singular) (Ok tt))
      turned true = refl
      turned false = refl

  pub solve_page_lem : singular n l rows ≡ false → (page : List ℕ) → solve_page (Ok tt) n l list roles page ≡ over (flat l (page_of n l (picked_rows n rows))) page
  unfolding solve_page singular
  solve_page_lem sound page =
      let free : independent (map (constraint l) (chosen roles (rows_of l list))) ≡ true =
      rows_free l (chosen roles (rows_of l list)) (picked_rows n rows) same ∙ not-false (independent (map (constraint l) (picked_rows n rows))) sound in
      ap (λ (p : List ℕ). over (flat l p) page) (rows-page l (chosen roles (rows_of l list)) (picked_rows n rows) same n size chosen-inside free)
