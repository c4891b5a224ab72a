-- Each contract of this crate settles the answer and every lent byte.
-- Assumes nothing.
use mathlib.Core.Path.{ap, ap₂}
use Rattle.octets.specs.Settles.{Settles}
use Rattle.octets.proofs.Unique.{unique}
use Rattle.making.proofs.make.Kinds as make
use Rattle.making.proofs.make.Reads as make-contract
use Rattle.making.proofs.put_head.Kinds as put-head
use Rattle.making.proofs.put_head.Reads as put-head-contract

pub make_settled : Settles make.ps make.r make-contract.Post
make_settled κs args = unique (λ o is. ap₂ (λ answer room. (answer, (tt, (tt, (tt, (tt, (tt, (room, tt)))))))) is.0 is.1)

pub put_head_settled : Settles put-head.ps put-head.r put-head-contract.Post
put_head_settled κs args = unique (λ o is. ap (λ room. (tt, (room, (tt, (tt, tt))))) is)
