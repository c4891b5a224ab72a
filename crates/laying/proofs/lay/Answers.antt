-- `laying::lay` meets its contract: of a good frame of the page the payload has l bytes, and the entry is the frame's.
-- Assumes nothing.
use Rattle.std.proofs.Common.{sym, ◌∙◌}
use Rattle.frame.proofs.Good.{good-payload}
use Rattle.laying.proofs.Laying.{entry_is}
use Rattle.laying.proofs.lay.Goals as goal

pub lay_row-requires-clause-payload_long : goal.lay_row-requires-clause-payload_long
lay_row-requires-clause-payload_long c =
    good-payload c.args.frame.now _ _ _ _ (sym c.read-found.ensures ∙ c.in-Good.is) ∙ c.if-its_l-l.false

pub returns-clause-list : goal.returns-clause-list
returns-clause-list c =
    let entry = entry_is c.args.frame.now _ _ _ _ (sym c.read-found.ensures ∙ c.in-Good.is) in
    rw (rw c.if-its_n-n.false at entry) c.lay_row.ensures.list
