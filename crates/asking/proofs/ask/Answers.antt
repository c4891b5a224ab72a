-- What the header says of the store that is asked.
-- Assumes nothing.
use mathlib.Core.Path.{sym, ◌∙◌}
use Rattle.rows.proofs.Shape.{shape_range}
use Rattle.store.proofs.Checked.{GoodHead, good_means}
use Rattle.asking.proofs.ask.Goals as goal
use Rattle.asking.proofs.ask.Goals.{After-room_fits}

said : (c : After-room_fits) → GoodHead c.args.store.now c.in_ok-head.head
said c = good_means c.args.store.now c.in_ok-head.head (sym c.check.ensures ∙ c.in_ok-head.was)

pub answer_rows-answer-requires-clause-long : goal.answer_rows-answer-requires-clause-long
answer_rows-answer-requires-clause-long c = (said (goal.at.answer_rows-answer-requires-clause-long c).After-room_fits).long

pub answer_rows-answer-requires-clause-narrow : goal.answer_rows-answer-requires-clause-narrow
answer_rows-answer-requires-clause-narrow c =
    let h = c.in_ok-head.head in
    (shape_range h.n h.l (said (goal.at.answer_rows-answer-requires-clause-narrow c).After-room_fits).shaped).l_high

pub answer_rows-answer-requires-clause-few : goal.answer_rows-answer-requires-clause-few
answer_rows-answer-requires-clause-few c = (said (goal.at.answer_rows-answer-requires-clause-few c).After-room_fits).few
