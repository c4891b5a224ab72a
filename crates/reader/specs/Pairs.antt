-- A list read with uses as bytes: two for each row, the higher byte first. Document 01: "There each use is two bytes, big-endian".
use Rattle.std.specs.Prelude.{ℕ, ◌/◌, List, length}
use Rattle.octets.specs.Octets.{numbers, flat, over}
use Rattle.reading.specs.Outcome.{Lent, Outcome, outcome}

-- To the reading uses are the numbers that whole pairs of them stand for.
unfoldable pub pair_counts : List ℕ → List ℕ
pair_counts bytes = numbers 2 (length bytes / 2) bytes

abbrev pub counted : Lent → Lent
counted lent = record { page = lent.page; uses = pair_counts lent.uses; roles = lent.roles; scratch = lent.scratch }

-- At exit the numbers stand as pairs in the bytes again.
abbrev pub paired : List ℕ → Lent → Lent
paired bytes lent = record { page = lent.page; uses = over (flat 2 lent.uses) bytes; roles = lent.roles; scratch = lent.scratch }

unfoldable pub in_pairs : ℕ → ℕ → List ℕ → Lent → Outcome
in_pairs n l list lent =
    let o = outcome n l list (counted lent) in
    record { answer = o.answer; lent = paired lent.uses o.lent }
