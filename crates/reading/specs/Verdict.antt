-- What a reading says of rows that pass the checks: "5 few", "6 tie", "7 singular", or "0 page". Document 01, "Answer numbers of a reading".
use Rattle.std.specs.Prelude.{ℕ, cond, List}
use Rattle.reading.specs.Reading.{picked_rows, page_of, few, tie, singular}

pub data Verdict : Type 0 where
  too_few tied dependent : Verdict
  answered : List ℕ → Verdict

unfoldable pub verdict : ℕ → ℕ → List ℕ → Verdict
verdict n l rows = cond (few n rows) too_few (cond (tie n rows) tied (cond (singular n l rows) dependent (answered (page_of n l (picked_rows n rows)))))
