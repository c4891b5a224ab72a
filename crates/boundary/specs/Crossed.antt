-- What crosses the boundary: numbers one by one, and buffers of bytes.
use Rattle.std.specs.Prelude.{ℕ, List}
use Rattle.reading.specs.declared.Numbers.{Numbers}
use Rattle.reading.specs.Answer.{answer_numbers}
use Rattle.reading.specs.Outcome.{Lent}
use Rattle.reader.specs.Pairs.{in_pairs}

-- The numbers of the answer go across, and the buffers.
pub record Crossed : Type 0 where
  pub numbers : Numbers
  pub lent : Lent

abbrev pub answered : ℕ → ℕ → ℕ → ℕ → Lent → Crossed
answered number rank place agreement lent =
    record { numbers = record { number = number; rank = rank; place = place; agreement = agreement }; lent = lent }

unfoldable pub crossed : ℕ → ℕ → List ℕ → Lent → Crossed
crossed n l list lent =
    let o = in_pairs n l list lent in
    record { numbers = answer_numbers o.answer; lent = o.lent }
