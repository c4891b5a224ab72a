-- `mekorvat_read_both` meets its contract: the numbers are those of both answers, and the buffers are those of both readings.
-- Assumes nothing.
use mathlib.Core.Path.{ap, ap₂, ◌∙◌}
use Prim.Native.Nat.{ℕ}
use mathlib.Core.List.{List}
use Rattle.reading.specs.declared.Numbers.{Numbers}
use Rattle.reading.specs.Answer.{answer_numbers}
use Rattle.reader.specs.Reader.{buffers}
use Rattle.both.specs.Both.{Pair}
use Rattle.both.specs.Parts.{second}
use Rattle.both_numbers.specs.Numbers as both
use Rattle.boundary.specs.CrossedBoth.{crossing, crossed_both}
use Rattle.boundary.proofs.mekorvat_read_both.Goals as goal

pub returns : goal.returns
unfolding crossed_both
returns c =
    let R = c.read_both-answers in
    ap₂ (λ (v : Numbers) (ns : List ℕ). crossing v.number ns (buffers R.new.page R.new.uses R.new.roles R.new.scratch) (second R.new.list2 R.new.page2 R.new.uses2 R.new.roles2))
    c.numbers_of-2.ensures c.numbers_of.ensures
    ∙ ap (λ (p : Pair). crossing (answer_numbers p.answers.first).number (both.both_numbers p.answers) p.lent p.second) R.ensures
