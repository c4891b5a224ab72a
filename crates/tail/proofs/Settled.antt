-- The contract of `tail::finish` settles the answer and every lent byte.
-- Assumes nothing.
use mathlib.Core.Path.{ap₂}
use Rattle.octets.specs.Settles.{Settles}
use Rattle.octets.proofs.Unique.{unique}
use Rattle.tail.proofs.finish.Kinds as finish
use Rattle.tail.proofs.finish.Reads as finish-contract

pub finish_settled : Settles finish.ps finish.r finish-contract.Post
finish_settled κs args = unique (λ o is. ap₂ (λ x roles. (x.answer, (tt, (tt, (tt, (tt, (tt, (x.state, (roles, (x.page, tt)))))))))) is.0 is.1)
