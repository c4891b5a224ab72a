-- The contracts of `reader::read_list` and `reader::read_pairs` settle the answer and every lent byte, so what the demands say of the reading they say
-- of each call.
-- Assumes nothing.
use mathlib.Core.Path.{ap}
use Rattle.octets.specs.Settles.{Settles}
use Rattle.octets.proofs.Unique.{unique}
use Rattle.reader.proofs.read_list.Kinds as read-list
use Rattle.reader.proofs.read_list.Reads as list-contract
use Rattle.reader.proofs.read_pairs.Kinds as read_pairs
use Rattle.reader.proofs.read_pairs.Reads as pairs-contract

pub read-list-settled : Settles read-list.ps read-list.r list-contract.Post
read-list-settled κs args = unique (λ o is. ap (λ x. (x.answer, (tt, (tt, (tt, (x.lent.page, (x.lent.uses, (x.lent.roles, (x.lent.scratch, tt))))))))) is)

pub read-pairs-settled : Settles read_pairs.ps read_pairs.r pairs-contract.Post
read-pairs-settled κs args = unique (λ o is. ap (λ x. (x.answer, (tt, (tt, (tt, (x.lent.page, (x.lent.uses, (x.lent.roles, (x.lent.scratch, tt))))))))) is)
