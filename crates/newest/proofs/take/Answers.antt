-- What `take` knows of a good header.
-- Assumes nothing.
use mathlib.Core.Path.{sym, ◌∙◌}
use Rattle.octets.proofs.Runs.{known_below}
use Rattle.store.proofs.Checked.{good_means}
use Rattle.newest.proofs.Taken.{ranged}
use Rattle.newest.proofs.take.Goals as goal

pub take_row-requires : goal.take_row-requires
take_row-requires c =
    let store = c.args.store.now in
    let good = good_means store c.in-Ok.head (sym c.check.ensures ∙ c.in-Ok.is) in
    record { long = good.long; ranged = ranged store c.in-Ok.head (known_below store c.slice_known-1.given) good }
