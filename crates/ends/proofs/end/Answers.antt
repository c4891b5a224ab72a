-- `ends::end` meets its contract: the uses are written from the state's parts, and then the scratch is cleared.
-- Assumes nothing.
use mathlib.Core.Path.{ap, ap₂, ◌∙◌}
use mathlib.Core.List.{List}
use Prim.Native.Nat.{ℕ}
use Rattle.reading.specs.declared.Numbers.{Numbers}
use Rattle.state.specs.Layout.{uses_part}
use Rattle.marks.specs.Mark.{uses_after_in}
use Rattle.ends.proofs.end.Goals as goal

pub returns : goal.returns
returns g c =
    let state = c.args.scratch.now in record {
      uses = c.put_uses.ensures
          ∙ ap₂ (λ (places counts : List ℕ). uses_after_in g.U.Uses.room_in g.U.Uses.written places counts c.args.uses.now) c.places.ensures.shows
          (c.uses-counts.ensures.shows ∙ ap (λ (x : Numbers). uses_part x.rank state) c.numbers_of-rank.ensures);
      scratch = c.clear_scratch.ensures;
    }
