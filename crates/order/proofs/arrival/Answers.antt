-- `arrival` meets its contract: it is one of the numbers in the part that is the order.
-- Assumes nothing.
use mathlib.Core.Path.{ap, ◌∙◌}
use Rattle.doubles.specs.Doubles.{pair_at}
use Rattle.state.specs.Layout.{arrival_at}
use Rattle.order.proofs.arrival.Goals as goal

pub returns : goal.returns
unfolding arrival_at
returns c = c.pair.ensures ∙ ap (pair_at c.args.i) c.order.ensures.shows
