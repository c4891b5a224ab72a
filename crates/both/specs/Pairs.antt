-- Both readings with uses as bytes: two for each row, the higher byte first.
use Rattle.std.specs.Prelude.{ℕ, List}
use Rattle.octets.specs.Octets.{flat, over}
use Rattle.reading.specs.Outcome.{Lent}
use Rattle.reader.specs.Pairs.{pair_counts, counted, paired}
use Rattle.both.specs.Both.{Second, Pair, both}

-- Uses are bytes, as in a single reading: to the reading the numbers that pairs of them stand for, and pairs again at exit.
abbrev pub counted_too : Second → Second
counted_too s = record { list = s.list; page = s.page; uses = pair_counts s.uses; roles = s.roles }

abbrev pub paired_too : List ℕ → Second → Second
paired_too bytes s = record { list = s.list; page = s.page; uses = over (flat 2 s.uses) bytes; roles = s.roles }

unfoldable pub both_in_pairs : ℕ → ℕ → List ℕ → Lent → Second → Pair
both_in_pairs n l list lent s =
    let p = both n l list (counted lent) (counted_too s) in
    record { answers = p.answers; lent = paired lent.uses p.lent; second = paired_too s.uses p.second }
