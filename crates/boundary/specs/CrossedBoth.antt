-- What both readings give across the boundary: nine numbers, and buffers of bytes.
use Rattle.std.specs.Prelude.{ℕ, List}
use Rattle.reading.specs.Answer.{answer_numbers}
use Rattle.reading.specs.Outcome.{Lent}
use Rattle.both.specs.Both.{Second}
use Rattle.both.specs.Pairs.{both_in_pairs}
use Rattle.both_numbers.specs.Numbers as both

-- The first answer's number, those numbers, and the buffers go across.
pub record CrossedBoth : Type 0 where
  pub number : ℕ
  pub numbers : List ℕ
  pub lent : Lent
  pub second : Second

abbrev pub crossing : ℕ → List ℕ → Lent → Second → CrossedBoth
crossing number numbers lent s = record { number = number; numbers = numbers; lent = lent; second = s }

unfoldable pub crossed_both : ℕ → ℕ → List ℕ → Lent → Second → CrossedBoth
crossed_both n l list lent s =
    let p = both_in_pairs n l list lent s in
    crossing (answer_numbers p.answers.first).number (both.both_numbers p.answers) p.lent p.second
