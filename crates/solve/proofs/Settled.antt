-- The contract of `solve::solve` settles the answer and every lent byte.
-- Assumes nothing.
use mathlib.Core.Path.{◌≡◌, ap, ◌∙◌}
use mathlib.Core.List.{List}
use Prim.Native.Nat.{ℕ}
use Rattle.octets.specs.Settles.{Settles}
use Rattle.octets.proofs.Unique.{unique}
use Rattle.std.specs.Prelude.{Result}
use Rattle.solve.specs.declared.Unsolved.{Unsolved}
use Rattle.solve.specs.Solve.{solve_slots, solve_page}
use Rattle.solve.proofs.solve.Kinds as solve
use Rattle.solve.proofs.solve.Reads as solve-contract

slots_by : (r s : Result (Unit {0}) Unsolved) (slots now : List ℕ) → r ≡ s → now ≡ solve_slots r slots → now ≡ solve_slots s slots
slots_by r s slots now e f = f ∙ ap (λ a. solve_slots a slots) e

page_by : (r s : Result (Unit {0}) Unsolved) (n l : ℕ) (list roles page now : List ℕ) → r ≡ s → now ≡ solve_page r n l list roles page → now ≡ solve_page s n l list roles page
page_by r s n l list roles page now e f = f ∙ ap (λ a. solve_page a n l list roles page) e

pub solve_settled : Settles solve.ps solve.r solve-contract.Post
solve_settled κs args =
    unique (λ o is i. (
      is.0 i,
      (tt, (tt, (tt, (tt, (slots_by _ _ _ _ is.0 is.1.0 i, (page_by _ _ _ _ _ _ _ _ is.0 is.1.1 i, tt)))))),
    ))
