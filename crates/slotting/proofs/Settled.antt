-- Each contract of this crate settles the result and every lent byte.
-- Assumes nothing.
use mathlib.Core.Path.{ap}
use Rattle.octets.specs.Settles.{Settles}
use Rattle.octets.proofs.Unique.{unique}
use Rattle.slotting.proofs.put.Kinds as put
use Rattle.slotting.proofs.put.Reads as put-contract
use Rattle.slotting.proofs.put_head.Kinds as put-head
use Rattle.slotting.proofs.put_head.Reads as put-head-contract

pub put_settled : Settles put.ps put.r put-contract.Post
put_settled κs args = unique (λ o is. ap (λ v. (tt, (v, (tt, (tt, (tt, tt)))))) is)

pub put_head_settled : Settles put-head.ps put-head.r put-head-contract.Post
put_head_settled κs args = unique (λ o is. ap (λ v. (tt, (v, (tt, (tt, tt))))) is)
