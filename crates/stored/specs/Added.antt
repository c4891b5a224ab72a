-- What asking gives, with a second page added to its page. Demand 3.
use Rattle.std.specs.Prelude.{ℕ, cond, List, eqb, length, take}
use Rattle.octets.specs.Octets.{xor_bytes, over}
use Rattle.asking.specs.Asking.{Asking, numbers_of}

-- "where a page was given, the new page is the old one with the second page added bit by bit"; all else is the same.
unfoldable pub added_asking : List ℕ → Asking → Asking
added_asking second a =
    record {
      answer = a.answer;
      lent =
          record {
            page = cond (eqb (numbers_of a.answer).number 0) (over (xor_bytes (take (length second) a.lent.page) second) a.lent.page) a.lent.page;
            uses = a.lent.uses;
            roles = a.lent.roles;
            scratch = a.lent.scratch;
          };
    }
