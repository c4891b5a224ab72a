-- The contract of this crate settles the count.
-- Assumes nothing.
use mathlib.Core.Path.{ap}
use Rattle.octets.specs.Settles.{Settles}
use Rattle.octets.proofs.Unique.{unique}
use Rattle.agreement.proofs.agreement.Kinds as agreement
use Rattle.agreement.proofs.agreement.Reads as agreement-contract

pub agreement-settled : Settles agreement.ps agreement.r agreement-contract.Post
agreement-settled κs args = unique (λ o is. ap (λ r. (r, (tt, (tt, (tt, (tt, tt)))))) is)
