-- An outcome, and a verdict, with a second page added to its page. Demand 3.
use Rattle.std.specs.Prelude.{ℕ, cond, List, length, take}
use Rattle.octets.specs.Octets.{xor_bytes, over}
use Rattle.rows.specs.Shift.{plus}
use Rattle.reading.specs.Verdict.{Verdict, too_few, tied, dependent, answered}
use Rattle.reading.specs.Outcome.{Outcome, gave}

-- "where a page was given, the new page is the old one with the second page added bit by bit"; all else is the same.
unfoldable pub added : List ℕ → Outcome → Outcome
added second o =
    record {
      answer = o.answer;
      lent =
          record {
            page = cond (gave o) (over (xor_bytes (take (length second) o.lent.page) second) o.lent.page) o.lent.page;
            uses = o.lent.uses;
            roles = o.lent.roles;
            scratch = o.lent.scratch;
          };
    }

-- Of a verdict, symbol by symbol.
unfoldable pub added_verdict : List ℕ → Verdict → Verdict
added_verdict second too_few = too_few
added_verdict second tied = tied
added_verdict second dependent = dependent
added_verdict second (answered page) = answered (plus page second)
