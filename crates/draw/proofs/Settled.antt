-- The contract of drawing settles the answer.
-- Assumes nothing.
use Rattle.std.proofs.Common.{ap}
use Rattle.octets.specs.Settles.{Settles}
use Rattle.octets.proofs.Unique.{unique}
use Rattle.draw.proofs.draw.Kinds as draw
use Rattle.draw.proofs.draw.Reads as draw-contract

pub draw_settled : Settles draw.ps draw.r draw-contract.Post
draw_settled κs args = unique (λ o is. ap (λ answer. (answer, (tt, (tt, tt)))) is)
