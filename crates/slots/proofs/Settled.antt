-- The contract of `slots::reduce` settles the result and the vector.
-- Assumes nothing.
use mathlib.Core.Path.{ap₂}
use Rattle.octets.specs.Settles.{Settles}
use Rattle.octets.proofs.Unique.{unique}
use Rattle.slots.proofs.reduce.Kinds as reduce
use Rattle.slots.proofs.reduce.Reads as reduce-contract

pub reduce_settled : Settles reduce.ps reduce.r reduce-contract.Post
reduce_settled κs args = unique (λ o is. ap₂ (λ r v. (r, (v, (tt, (tt, (tt, tt)))))) is.0 is.1)
