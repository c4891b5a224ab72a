-- `mekorvat_read_list` meets its contract: the numbers are those of the reading's answer, and the buffers are its buffers.
-- Assumes nothing.
use Rattle.reader.specs.Reader.{buffers}
use mathlib.Core.Path.{ap, ◌∙◌}
use Rattle.reading.specs.declared.Numbers.{Numbers}
use Rattle.reading.specs.Answer.{answer_numbers}
use Rattle.reading.specs.Outcome.{Lent, Outcome}
use Rattle.boundary.specs.Crossed.{Crossed, crossed}
use Rattle.boundary.proofs.mekorvat_read_list.Goals as goal

abbrev across : Numbers → Lent → Crossed
across numbers lent = record { numbers = numbers; lent = lent }

pub returns : goal.returns
unfolding crossed
returns c =
    let read = c.read_pairs-answer in
    let lent : Lent = buffers read.new.page read.new.uses read.new.roles read.new.scratch in
    ap (λ (v : Numbers). across v lent) c.numbers_of-numbers.ensures ∙ ap (λ (o : Outcome). across (answer_numbers o.answer) o.lent) read.ensures
