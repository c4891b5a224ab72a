-- `draw::rot` meets its contract: the bits that leave above come in below, where the shift up has left zeros, so that `|` is a sum.
-- Assumes nothing.
use Rattle.std.proofs.Common.{◌≡◌, ◌+◌, ◌-◌, ◌/◌, ◌^◌, ◌<◌, add_comm, arith, shr_lt}
use Rattle.draw.specs.Draw.{rot}
use Rattle.draw.proofs.Shifts.{shl_or}
use Rattle.draw.proofs.rot.Goals as goal

pub returns : goal.returns
unfolding rot
returns c =
    let x = c.args.x in
    let k = c.args.k in
    let width : 32 - k + k ≡ 32 = omega arith in
    let below : x / 2 ^ (32 - k) < 2 ^ k = shr_lt k (32 - k) (rw (add_comm k (32 - k), width) (omega arith)) in
    rw width at (shl_or x (32 - k) k (x / 2 ^ (32 - k)) below)
