-- What fits, and the outcome of `solve` either way: the answer, the slots and the page, from what the private steps gave.
-- Assumes nothing.
use mathlib.Core.Path.{◌≡◌, sym, ap, ◌∙◌}
use Prim.Native.Nat.{ℕ, ◌*◌, ◌≤◌}
use native.Mathlib.Omega.{arith}
use mathlib.Core.Bool.{Bool, true, false, not}
use mathlib.Core.List.{List, ◌++◌, map}
use lib.Dec.{leb}
use lib.ListN.{length, take, drop, replicate, length-append, length-replicate}
use lib.Seq.{take_at, drop_at, length-take-le}
use borrow.Author.Tests.{leb-true, not-false}
use Rattle.space.specs.Space.{independent}
use Rattle.space.proofs.Both.{both}
use Rattle.octets.specs.Octets.{over}
use Rattle.octets.proofs.Lay.{over-back}
use Rattle.rows.specs.Rows.{rows_of, constraint}
use Rattle.chosen.specs.Chosen.{chosen, proper}
use Rattle.chosen.proofs.Within.{Proper, proper_so}
use Rattle.entering.specs.Enter.{slot_bytes}
use Rattle.filled.proofs.Told.{told_exactly, told-page}
use Rattle.std.specs.Prelude.{Result, Ok, Err}
use Rattle.solve.specs.declared.Unsolved.{Unsolved}
use Rattle.solve.specs.declared.Unsolved.TheVariants.{Singular}
use Rattle.solve.specs.Solve.{solvable, solve_answer, solve_page, solve_slots}
use Rattle.solve.specs.Parts.{told, page_told}

-- ---- what fits

pub record Fitting (n l : ℕ) (list roles slots page : List ℕ) : Type 0 where
  pub fit : solvable n l list roles slots page ≡ true
  pub good : Proper n l list roles
  pub wide : slot_bytes ≤ length slots
  pub room : n * l ≤ length page

fits_so : (n l : ℕ) (list roles slots page : List ℕ) → solvable n l list roles slots page ≡ true → Fitting n l list roles slots page
unfolding solvable
fits_so n l list roles slots page e =
    let a = both (proper n l list roles) _ e in
    let b = both (leb slot_bytes (length slots)) (leb (n * l) (length page)) a.1 in
    record {
      fit = unfold solvable in e;
      good = proper_so n l list roles a.0;
      wide = leb-true slot_bytes (length slots) b.0;
      room = leb-true (n * l) (length page) b.1;
    }

-- by the test of it
pub fitting_so : (n l : ℕ) (list roles slots page : List ℕ) (b : Bool) → b ≡ solvable n l list roles slots page → not b ≡ false → Fitting n l list roles slots page
fitting_so n l list roles slots page b e t = fits_so n l list roles slots page (sym e ∙ not-false b t)

-- ---- the outcome

-- what a call answers and leaves
abbrev Ends : ℕ → ℕ → List ℕ → List ℕ → List ℕ → List ℕ → Result (Unit {0}) Unsolved → List ℕ → List ℕ → Type 0
Ends n l list roles slots page r slots' page' =
    (r ≡ solve_answer n l list roles slots page) × ((slots' ≡ solve_slots r slots) × (page' ≡ solve_page r n l list roles page))

module _ (n l : ℕ) (list roles slots page : List ℕ) where
  module _ (F : Fitting n l list roles slots page) where
    pub part-long : length (take slot_bytes slots) ≡ slot_bytes
    part-long = length-take-le slot_bytes slots F.wide

    module _ (after : List ℕ) (same : length after ≡ length (take slot_bytes slots)) where
      pub after-long : slot_bytes ≤ length (after ++ drop slot_bytes slots)
      after-long = omega (arith, length-append after (drop slot_bytes slots), same, part-long)

      module _ (b : Bool) (part page' : List ℕ) (went : b ≡ (told l list roles).all) (paged : page' ≡ page_told n l list roles page)
          (cleared : part ≡ replicate (length (take slot_bytes (after ++ drop slot_bytes slots))) 0) where
        slots_are : part ++ drop slot_bytes (after ++ drop slot_bytes slots) ≡ over (replicate slot_bytes 0) slots
        slots_are =
            let long : length after ≡ slot_bytes = same ∙ part-long in
            rw (drop_at after (drop slot_bytes slots) slot_bytes long)
            (rw (cleared ∙ ap (λ t. replicate {A = ℕ} (length t) 0) (take_at after (drop slot_bytes slots) slot_bytes long), long)
            (over-back slot_bytes (replicate slot_bytes 0) slots (length-replicate {A = ℕ} slot_bytes 0)))

        free : independent (map (constraint l) (chosen roles (rows_of l list))) ≡ b
        free = sym (went ∙ told_exactly n l list roles F.good)

        pub outcome-page : b ≡ true → Ends n l list roles slots page (Ok tt) (part ++ drop slot_bytes (after ++ drop slot_bytes slots)) page'
        unfolding solve_answer solve_slots solve_page
        outcome-page y =
            let all : (told l list roles).all ≡ true = sym went ∙ y in
            (rw (F.fit, free ∙ y), (slots_are, paged ∙ rw all (told-page n l list roles F.good all page F.room)))

        pub outcome-singular : b ≡ false → Ends n l list roles slots page (Err Singular) (part ++ drop slot_bytes (after ++ drop slot_bytes slots)) page'
        unfolding solve_answer solve_slots solve_page
        outcome-singular y = let none : (told l list roles).all ≡ false = sym went ∙ y in (rw (F.fit, free ∙ y), (slots_are, paged ∙ rw none))
