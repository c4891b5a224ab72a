-- Both results with a second page added to each page, and to the rows of the second list. Demand 3: "one added page shifting both".
use Rattle.std.specs.Prelude.{ℕ, ◌*◌, cond, List, take}
use Rattle.octets.specs.Octets.{over}
use Rattle.rows.specs.Rows.{list_row_bytes, symbols}
use Rattle.rows.specs.Shift.{shifted_list}
use Rattle.reading.specs.Outcome.{Outcome, gave}
use Rattle.reading.specs.Added.{added}
use Rattle.both.specs.Both.{Second, Pair}

-- The readings of a pair, each as an outcome.
abbrev pub first_of : Pair → Outcome
first_of p = record { answer = p.answers.first; lent = p.lent }

abbrev pub second_of : Pair → Outcome
second_of p =
    record { answer = p.answers.second; lent = record { page = p.second.page; uses = p.second.uses; roles = p.second.roles; scratch = p.lent.scratch } }

-- The second list, where there is one, with the page added to its rows; and its page.
unfoldable pub added_second : ℕ → ℕ → List ℕ → Pair → Second
added_second n l page p =
    let second = added page (second_of p) in
    record {
      list = over (shifted_list l (symbols n l page) (take (p.answers.rows * list_row_bytes l) p.second.list)) p.second.list;
      page = second.lent.page;
      uses = second.lent.uses;
      roles = second.lent.roles;
    }

unfoldable pub added_both : ℕ → ℕ → List ℕ → Pair → Pair
added_both n l page p =
    record { answers = p.answers; lent = (added page (first_of p)).lent; second = cond (gave (first_of p)) (added_second n l page p) p.second }
