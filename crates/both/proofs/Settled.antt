-- The public contract settles the answers and every lent byte.
-- Assumes nothing.
use mathlib.Core.Path.{ap}
use Rattle.octets.specs.Settles.{Settles}
use Rattle.octets.proofs.Unique.{unique}
use Rattle.both.specs.Both.{Pair}
use Rattle.both.proofs.read_both.Kinds as read-both
use Rattle.both.proofs.read_both.Reads as read-both-contract

pub read-both-settled : Settles read-both.ps read-both.r read-both-contract.Post
read-both-settled κs args =
    unique (λ o is. ap (λ (x : Pair). (x.answers, (tt, (tt, (tt, (x.lent.page, (x.lent.uses, (x.lent.roles, (x.second.list, (x.second.page, (x.second.uses, (x.second.roles, (x.lent.scratch, tt))))))))))))) is)
