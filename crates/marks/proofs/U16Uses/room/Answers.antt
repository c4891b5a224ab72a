-- `marks::U16Uses::room` meets its contract: a use is one element.
-- Assumes nothing.
use Rattle.marks.proofs.Written.{whole, whole_back}
use Rattle.marks.proofs.U16Uses.room.Goals as goal

pub returns-clause-one_more : goal.returns-clause-one_more
returns-clause-one_more c = whole

pub returns-clause-back : goal.returns-clause-back
returns-clause-back c = whole_back c.args.uses.now
