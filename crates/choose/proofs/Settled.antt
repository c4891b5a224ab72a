-- The contract of this crate settles the answer.
-- Assumes nothing.
use mathlib.Core.Path.{ap}
use Rattle.octets.specs.Settles.{Settles}
use Rattle.octets.proofs.Unique.{unique}
use Rattle.choose.proofs.pick.Kinds as pick
use Rattle.choose.proofs.pick.Reads as pick-contract

pub pick_settled : Settles pick.ps pick.r pick-contract.Post
pick_settled κs args = unique (λ o is. ap (λ r. (r, (tt, (tt, tt)))) is)
