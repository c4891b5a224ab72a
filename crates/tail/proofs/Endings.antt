-- How the tail ends, from what its steps answered.
-- Assumes nothing.
use mathlib.Core.Path.{◌≡◌, refl}
use Prim.Native.Nat.{ℕ, ◌*◌, ◌≤◌}
use native.Mathlib.Omega.{arith}
use mathlib.Core.Bool.{Bool, true, false, cond, ◌&&◌}
use mathlib.Core.List.{List, map}
use lib.Dec.{leb}
use lib.ListN.{length}
use lib.Seq.{length-take-le}
use borrow.Author.Tests.{leb-true}
use Rattle.space.specs.Space.{independent}
use Rattle.space.proofs.Both.{both}
use Rattle.rows.specs.Rows.{rows_of, constraint}
use Rattle.chosen.specs.Chosen.{chosen, proper}
use Rattle.entering.specs.Enter.{slot_bytes}
use Rattle.std.specs.Prelude.{Result, Ok, Err}
use Rattle.solve.specs.declared.Unsolved.{Unsolved}
use Rattle.solve.specs.declared.Unsolved.TheVariants.{Singular, Misfit}
use Rattle.solve.specs.Solve.{solvable, solve_answer}

-- a page is found only where there is room for it
pub page-fits : (n l : ℕ) (list roles state page : List ℕ) → Ok tt ≡ solve_answer n l list roles state page → n * l ≤ length page
unfolding solve_answer solvable
page-fits n l list roles state page e = go (solvable n l list roles state page) refl e
  where
    go : (b : Bool) → solvable n l list roles state page ≡ b
        → ◌≡◌ {A = Result (Unit {0}) Unsolved} (Ok tt) (cond b (cond (independent (map (constraint l) (chosen roles (rows_of l list)))) (Ok tt) (Err Singular)) (Err Misfit)) → n * l ≤ length page
    go true f g =
        let fit : (proper n l list roles && (leb slot_bytes (length state) && leb (n * l) (length page))) ≡ true = f in
        leb-true (n * l) (length page) (both (leb slot_bytes (length state)) (leb (n * l) (length page)) (both (proper n l list roles) _ fit).1).1
    go false f g = let z : ◌≡◌ {A = ℕ} 0 1 = cc in absurd (omega arith)

-- what `settle` meets its contract by
pub ruleset settling = (page-fits, length-take-le)
