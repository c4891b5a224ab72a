-- The steps of reading both: the second list and its reading.
use Rattle.std.specs.Prelude.{ℕ, ◌≤◌, ◌≡◌, List, length}
use Rattle.octets.specs.Octets.{flat, over}
use Rattle.rows.specs.Rows.{list_row_bytes}
use Rattle.reading.specs.declared.Answer.{Answer}
use Rattle.reading.specs.Orders.{in_list_order}
use Rattle.reading.specs.Outcome.{Lent, passes, checks, read}
use Rattle.both.specs.declared.Both.{Both}
use Rattle.both.specs.Both.{Second, Pair, lent_too}
use Rattle.both.specs.Pairs.{counted_too, paired_too}

-- The second buffers, and both results, by their parts.
abbrev pub second : List ℕ → List ℕ → List ℕ → List ℕ → Second
second list page uses roles = record { list = list; page = page; uses = uses; roles = roles }

abbrev pub pair : Both → Lent → Second → Pair
pair answers lent s = record { answers = answers; lent = lent; second = s }

-- ---- the second list and its reading

-- What was checked before: the list passes with the second buffers too, and the second list has room for it.
pub record Passing (n l : ℕ) (list : List ℕ) (s : Second) (scratch : List ℕ) : Type 0 where
  pub passing : checks n l list (lent_too scratch s) ≡ passes
  pub list_room : length list ≤ length s.list

-- Both answers, and what is lent for the second at exit.
pub record SecondEnding : Type 0 where
  pub answers : Both
  pub second : Second
  pub scratch : List ℕ

abbrev pub second_ending : Both → Second → List ℕ → SecondEnding
second_ending answers s scratch = record { answers = answers; second = s; scratch = scratch }

-- The entries copied to the second list and read, with uses as pairs of bytes.
unfoldable pub secondly : Answer → ℕ → ℕ → List ℕ → Second → List ℕ → SecondEnding
secondly first n l entries s scratch =
    let p = read n l entries (in_list_order entries) (lent_too scratch (counted_too s)) in
    second_ending (record { first = first; second = p.answer; rows = length entries })
    (paired_too s.uses (second (over (flat (list_row_bytes l) entries) s.list) p.lent.page p.lent.uses p.lent.roles)) p.lent.scratch
