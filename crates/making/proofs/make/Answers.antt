-- `making::make` meets its contract: the head goes over the first 12 bytes of the room and the sum right behind them.
-- Assumes nothing.
use Rattle.std.proofs.Common.{sym, ◌∙◌}
use Rattle.making.proofs.Making.{room-written}
use Rattle.making.proofs.make.Goals as goal

pub returns-clause-room : goal.returns-clause-room
returns-clause-room c =
    room-written _ _ _ _ c.args.page.now c.args.room.now (sym c.answer.ensures ∙ c.in_ok-answer.was) c.stride-end.result c.stride-end.ensures _ c.put_head.ensures _ c.sum.ensures
