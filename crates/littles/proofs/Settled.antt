-- Each contract of this crate settles the result and every lent byte.
-- Assumes nothing.
use mathlib.Core.Path.{ap}
use Rattle.octets.specs.Settles.{Settles}
use Rattle.octets.proofs.Unique.{unique}
use Rattle.littles.proofs.little.Kinds as little
use Rattle.littles.proofs.little.Reads as little-contract
use Rattle.littles.proofs.put_little.Kinds as put-little
use Rattle.littles.proofs.put_little.Reads as put-little-contract

pub little_settled : Settles little.ps little.r little-contract.Post
little_settled κs args = unique (λ o is. ap (λ r. (r, (tt, (tt, tt)))) is)

pub put_little_settled : Settles put-little.ps put-little.r put-little-contract.Post
put_little_settled κs args = unique (λ o is. ap (λ v. (tt, (v, (tt, tt)))) is)
