-- `note` meets its contract: whether the bits are set is looked up before they are set, or the filter is too short.
-- Assumes nothing.
use Rattle.std.proofs.Common.{◌/◌, ◌++◌, drop, ap, ◌∙◌}
use Rattle.filter.specs.Filter.{filter_bytes, second_bit, note, with_set}
use Rattle.filter.proofs.Noted.{note_short, noted_part}
use Rattle.filter.proofs.note.Goals as goal

pub returns-in_default : goal.returns-in_default
unfolding filter_bytes
returns-in_default c =
    let short = note_short c.args.seed c.args.filter.now c.in_default.ensures.cases in
    record { answer = short.0; filter = short.1 }

pub returns : goal.returns
unfolding filter_bytes second_bit note
returns c =
    let first = c.in-Some.ensures.cases in
    let is = noted_part c.args.seed c.args.filter.now c.in-Some.bits.now first.enough first.same in
    record {
      answer = c.is_noted-before.ensures ∙ is.0;
      filter = ap (λ bits. bits ++ drop 1024 c.args.filter.now) (c.set-2.ensures ∙ ap (with_set (c.args.seed / 8192)) c.set.ensures) ∙ is.1;
    }
