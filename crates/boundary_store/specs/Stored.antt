-- What crosses the boundary of a store: numbers one by one, and buffers of bytes.
use Rattle.std.specs.Prelude.{ℕ, Result, List}
use Rattle.reading.specs.declared.Numbers.{Numbers}
use Rattle.reading.specs.Answer.{numbered}
use Rattle.reading.specs.Outcome.{Lent}
use Rattle.telling.specs.declared.Told.{Told}
use Rattle.telling.specs.Told.{told}
use Rattle.offering.specs.declared.Refusal.{Refusal}
use Rattle.offering.specs.Offering as offering
use Rattle.asking.specs.Asking.{lending, numbers_of, rows_of, asked}

-- Number and place of an offer.
abbrev pub offer_told : Result Unit Refusal → Told
offer_told a = told (offering.number_of a) (offering.place_of a)

-- The numbers of asking, how many rows the store has, and the buffers go across.
pub record Across : Type 0 where
  pub numbers : Numbers
  pub rows : ℕ
  pub lent : Lent

abbrev pub across : ℕ → ℕ → ℕ → ℕ → ℕ → List ℕ → List ℕ → List ℕ → List ℕ → Across
across number rank place agreement rows page uses roles scratch =
    record { numbers = numbered number rank place agreement; rows = rows; lent = lending page uses roles scratch }

unfoldable pub asked_across : List ℕ → List ℕ → List ℕ → List ℕ → List ℕ → Across
asked_across store page uses roles scratch =
    let a = asked store page uses roles scratch in
    record { numbers = numbers_of a.answer; rows = rows_of a.answer; lent = a.lent }
