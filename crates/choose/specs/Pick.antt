-- Which kept rows are picked, said by one number: the fewest uses that a picked row can have. Document 01, "How a list is read".
use Rattle.std.specs.Prelude.{ℕ, cond, not, List, map, eqb, ltb, length, Result, Ok, Err}
use Rattle.space.specs.Lists.{select, marked, above}
use Rattle.reading.specs.Reading.{picks}
use Rattle.choose.specs.declared.Unpicked.{Unpicked}
use Rattle.choose.specs.declared.Unpicked.TheVariants.{Few, Tie}

-- More uses than two bytes can count.
abbrev pub none_picked : ℕ
none_picked = 65536

-- The fewest uses that a picked row can have: "the smallest use inside the pick is greater than the largest outside". Document 000
-- asks for such a number, N*, in line 26 of Algorithm 2.
unfoldable pub least : ℕ → List ℕ → ℕ
least n us = above (select (map not (picks n us)) us)

-- Few is 5, "r below n"; Tie is 6, "r over n, pick not unique"; else the rows with that many uses or more.
unfoldable pub choice_of : ℕ → List ℕ → Result ℕ Unpicked
choice_of n us = cond (ltb (length us) n) (Err Few) (cond (eqb (marked (picks n us)) n) (Ok (least n us)) (Err Tie))
