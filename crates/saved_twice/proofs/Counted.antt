-- How many rows both readings tell of, where a page was given: those that agree with it and those of the second list are all rows, repeats included; and the
-- first agreement and the rows that count of the second list are all rows that count.
-- Assumes nothing.
use mathlib.Core.Path.{◌≡◌, ◌∙◌}
use Prim.Native.Nat.{ℕ, ◌+◌}
use mathlib.Core.Bool.{true}
use mathlib.Core.List.{List}
use lib.ListN.{length}
use Rattle.space.specs.Lists.{Below, marked, count}
use Rattle.rows.specs.Rows.{row_count, entries_of, rows_of, agrees}
use Rattle.rows.proofs.Lists.{length-entries_of}
use Rattle.reading.specs.Reading.{agreement}
use Rattle.reading.specs.Orders.{counts, taken, in_list_order}
use Rattle.reading.specs.Outcome.{Lent, gave}
use Rattle.both.specs.Both as spec
use Rattle.both.specs.Both.{Second}
use Rattle.saved_twice.specs.Added.{first_of}
use Rattle.saved_twice.specs.Saved.{page_given, second_entries}
use Rattle.saved_twice.proofs.Numbers.{apart-number, apart-counts}
use Rattle.saved_twice.proofs.Told.{second-rows}

module _ (n l : ℕ) (list : List ℕ) (lent : Lent) (s : Second) (b : Below 256 list) (page : gave (first_of (spec.both n l list lent s)) ≡ true) where
  pub all-numbered : count (agrees l (page_given n l (spec.both n l list lent s))) (rows_of l list) + length (second_entries l (spec.both n l list lent s)) ≡ row_count l list
  unfolding rows_of
  all-numbered = rw (second-rows n l list lent s b page) (apart-number l (page_given n l (spec.both n l list lent s)) (entries_of l list) ∙ length-entries_of l list)

  pub all-counted : agreement l (page_given n l (spec.both n l list lent s)) (taken l (entries_of l list) (in_list_order (entries_of l list)))
      + marked (counts (second_entries l (spec.both n l list lent s))) ≡ marked (counts (entries_of l list))
  all-counted = rw (second-rows n l list lent s b page) (apart-counts l (page_given n l (spec.both n l list lent s)) (entries_of l list))
