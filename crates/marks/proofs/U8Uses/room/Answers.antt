-- `marks::U8Uses::room` meets its contract: a use is two bytes.
-- Assumes nothing.
use Rattle.octets.proofs.Runs.{known_below}
use Rattle.marks.proofs.Written.{in_pairs, pairs_back}
use Rattle.marks.proofs.U8Uses.room.Goals as goal

pub returns-clause-one_more : goal.returns-clause-one_more
returns-clause-one_more c = in_pairs

pub returns-clause-back : goal.returns-clause-back
returns-clause-back c = pairs_back c.args.uses.now (known_below c.args.uses.now c.type_inv.uses)
