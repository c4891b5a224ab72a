-- Each contract of this crate settles every lent element.
-- Assumes nothing.
use mathlib.Core.Path.{ap}
use Rattle.octets.specs.Settles.{Settles}
use Rattle.octets.proofs.Unique.{unique}
use Rattle.roles.proofs.put_roles.Kinds as put-roles
use Rattle.roles.proofs.put_roles.Reads as put-roles-contract

pub put_roles_settled : Settles put-roles.ps put-roles.r put-roles-contract.Post
put_roles_settled κs args = unique (λ o is. ap (λ v. (tt, (tt, (tt, (tt, (v, tt)))))) is)
