-- A good header is that of a buffer as long as a store.
-- Assumes nothing.
use mathlib.Core.Path.{sym, ◌∙◌}
use Rattle.store.proofs.Checked.{good_means}
use Rattle.offering.proofs.offer.Goals as goal

pub lay-requires : goal.lay-requires
lay-requires c = (good_means c.args.store.now c.in_ok-head.head (sym c.check.ensures ∙ c.in_ok-head.was)).long
