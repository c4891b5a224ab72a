-- Each contract of this crate settles its answer.
-- Assumes nothing.
use mathlib.Core.Path.{ap}
use Rattle.octets.specs.Settles.{Settles}
use Rattle.octets.proofs.Unique.{unique}
use Rattle.gate.proofs.check.Kinds as check
use Rattle.gate.proofs.check.Reads as check-contract
use Rattle.gate.proofs.room_fits.Kinds as room_fits
use Rattle.gate.proofs.room_fits.Reads as room-fits-contract
use Rattle.gate.proofs.whole.Kinds as whole
use Rattle.gate.proofs.whole.Reads as whole-contract

pub whole-settled : Settles whole.ps whole.r whole-contract.Post
whole-settled κs args = unique (λ o is. ap (λ r. (r, (tt, (tt, tt)))) is)

pub room-fits-settled : Settles room_fits.ps room_fits.r room-fits-contract.Post
room-fits-settled κs args = unique (λ o is. ap (λ r. (r, (tt, (tt, (tt, tt))))) is)

pub check_settled : Settles check.ps check.r check-contract.Post
check_settled κs args = unique (λ o is. ap (λ r. (r, (tt, (tt, (tt, (tt, tt)))))) is)
