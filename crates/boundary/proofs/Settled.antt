-- Each contract of the boundary settles the result, every number and every lent byte.
-- Assumes nothing.
use mathlib.Core.Path.{ap}
use Rattle.octets.specs.Settles.{Settles}
use Rattle.octets.proofs.Unique.{unique}
use Rattle.boundary.proofs.mekorvat_read_list.Kinds as read-list
use Rattle.boundary.proofs.mekorvat_read_list.Reads as read-list-contract
use Rattle.boundary.proofs.mekorvat_read_both.Kinds as read-both
use Rattle.boundary.proofs.mekorvat_read_both.Reads as read-both-contract

pub read-list-settled : Settles read-list.ps read-list.r read-list-contract.Post
read-list-settled κs args =
    unique (λ o is. ap (λ x. (x.numbers.number, (tt, (tt, (tt, (x.lent.page, (x.lent.uses, (x.lent.roles, (x.lent.scratch, (x.numbers.rank, (x.numbers.place, (x.numbers.agreement, tt)))))))))))) is)

pub read-both-settled : Settles read-both.ps read-both.r read-both-contract.Post
read-both-settled κs args =
    unique (λ o is. ap (λ x. (x.number, (tt, (tt, (tt, (x.lent.page, (x.lent.uses, (x.lent.roles, (x.second.list, (x.second.page, (x.second.uses, (x.second.roles, (x.lent.scratch, (x.numbers, tt)))))))))))))) is)
