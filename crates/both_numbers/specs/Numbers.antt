-- The numbers of both answers in a row: rank, place and agreement of the first, then number, rank, place and agreement of the second, then
-- the rows of the second list. The first number is what a reading answers.
use Rattle.std.specs.Prelude.{ℕ, List, [], ◌∷◌}
use Rattle.reading.specs.Answer as reading
use Rattle.both.specs.declared.Both.{Both}

unfoldable pub both_numbers : Both → List ℕ
both_numbers b =
    let first = reading.answer_numbers b.first in
    let second = reading.answer_numbers b.second in
    first.rank ∷ first.place ∷ first.agreement ∷ second.number ∷ second.rank ∷ second.place ∷ second.agreement ∷ b.rows ∷ []
