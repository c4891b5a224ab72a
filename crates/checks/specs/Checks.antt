-- The checks as the reader makes them: 1 to 3 of lengths alone, then 4 of the rows.
use Rattle.std.specs.Prelude.{ℕ, List, length, Result, Ok, Err}
use Rattle.reading.specs.declared.Answer.{Answer}
use Rattle.reading.specs.Outcome.{Check, passes, refuses}
use Rattle.gate.specs.declared.Refusal.{Refusal}
use Rattle.gate.specs.Gate.{gate, refused}
use Rattle.strays.specs.Strays.{strays_in}

-- What the code says of them, as the definition has it.
unfoldable pub check_of : Result (Unit {0}) Answer → Check
check_of (Ok _) = passes
check_of (Err answer) = refuses answer

-- Where the gate is open the rows decide.
unfoldable pub through : Result (Unit {0}) Refusal → Check → Check
through (Ok _) k = k
through (Err refusal) k = refuses (refused refusal)

unfoldable pub all_checks : ℕ → ℕ → List ℕ → ℕ → ℕ → ℕ → ℕ → Check
all_checks n l list page uses roles scratch = through (gate n l (length list) page uses roles scratch) (strays_in n l list)
