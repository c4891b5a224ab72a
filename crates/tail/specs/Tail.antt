-- What the bytes of a state of elimination come to: the roles, the answer, the page, and the state afterwards. Document 01, "How a list is read",
-- from the pick on. Any bytes come to something; where they hold rows it is what the reading says of these.
use Rattle.std.specs.Prelude.{ℕ, ◌*◌, List, take, Result, Ok, Err}
use Rattle.doubles.specs.Doubles.{pairs_in}
use Rattle.rows.specs.Rows.{row_count}
use Rattle.reading.specs.declared.Answer.{Answer}
use Rattle.reading.specs.declared.Answer.TheVariants as answer
use Rattle.state.specs.Layout.{uses_part, places_part, order_part}
use Rattle.choose.specs.declared.Unpicked.{Unpicked}
use Rattle.choose.specs.declared.Unpicked.TheVariants.{Few, Tie}
use Rattle.choose.specs.Pick.{choice_of}
use Rattle.roles.specs.Role.{roles_after}
use Rattle.agreement.specs.Agreement.{agreement_of}
use Rattle.solve.specs.declared.Unsolved.{Unsolved}
use Rattle.solve.specs.Solve.{solve_answer, solve_page, solve_slots}

-- The answer, the state and the page room.
pub record Ending : Type 0 where
  pub answer : Answer
  pub state : List ℕ
  pub page : List ℕ

abbrev pub ends : Answer → List ℕ → List ℕ → Ending
ends a state page = record { answer = a; state = state; page = page }

-- What the uses in a state choose, with so many rows kept.
unfoldable pub choice_in : ℕ → ℕ → List ℕ → Result ℕ Unpicked
choice_in n rank state = choice_of n (pairs_in (uses_part rank state))

-- The roles that follow, by the kept places in it.
unfoldable pub roles_in : ℕ → ℕ → List ℕ → ℕ → List ℕ → List ℕ → List ℕ
roles_in n l list rank state roles = roles_after (choice_in n rank state) (places_part (row_count l list) state) (uses_part rank state) roles

-- What solving came to: 7 singular, "picked constraints dependent"; 0 page, "otherwise", and its agreement over the rows taken.
unfoldable pub settled_by : Result (Unit {0}) Unsolved → ℕ → ℕ → ℕ → List ℕ → ℕ → List ℕ → List ℕ → Ending
settled_by (Ok _) rank n l list taken state page = ends (answer.Page rank (agreement_of l list (order_part taken state) (take (n * l) page))) state page
settled_by (Err _) rank n l list taken state page = ends (answer.Singular rank) state page

unfoldable pub settled : ℕ → ℕ → ℕ → List ℕ → ℕ → List ℕ → List ℕ → List ℕ → Ending
settled rank n l list taken roles state page =
    let s = solve_answer n l list roles state page in
    settled_by s rank n l list taken (solve_slots s state) (solve_page s n l list roles page)

-- 5 few, 6 tie, or solving.
unfoldable pub concluded : Result ℕ Unpicked → ℕ → ℕ → ℕ → List ℕ → ℕ → List ℕ → List ℕ → List ℕ → Ending
concluded (Err Few) rank n l list taken roles state page = ends (answer.Few rank) state page
concluded (Err Tie) rank n l list taken roles state page = ends (answer.Tie rank) state page
concluded (Ok least) rank n l list taken roles state page = settled rank n l list taken roles state page

unfoldable pub finished : ℕ → ℕ → List ℕ → ℕ → ℕ → List ℕ → List ℕ → List ℕ → Ending
finished n l list taken rank state roles page = concluded (choice_in n rank state) rank n l list taken (roles_in n l list rank state roles) state page
