-- Document 01's number, rank, place and agreement for each answer: its table "Answer numbers of a reading".
use Rattle.std.specs.Prelude.{ℕ}
use Rattle.reading.specs.declared.Answer.{Answer}
use Rattle.reading.specs.declared.Answer.TheVariants.{Page, Shape, List, Room, Stray, Few, Tie, Singular}
use Rattle.reading.specs.declared.Numbers.{Numbers}

abbrev pub numbered : ℕ → ℕ → ℕ → ℕ → Numbers
numbered number rank place agreement = record { number = number; rank = rank; place = place; agreement = agreement }

unfoldable pub answer_numbers : Answer → Numbers
answer_numbers Shape = numbered 1 0 0 0
answer_numbers List = numbered 2 0 0 0
answer_numbers Room = numbered 3 0 0 0
answer_numbers (Stray arrival) = numbered 4 0 arrival.0 0
answer_numbers (Few r) = numbered 5 r 0 0
answer_numbers (Tie r) = numbered 6 r 0 0
answer_numbers (Singular r) = numbered 7 r 0 0
answer_numbers (Page r agreement) = numbered 0 r 0 agreement
