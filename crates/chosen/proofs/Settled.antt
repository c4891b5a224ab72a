-- Each contract of this crate settles its answer.
-- Assumes nothing.
use mathlib.Core.Path.{ap}
use Rattle.octets.specs.Settles.{Settles}
use Rattle.octets.proofs.Unique.{unique}
use Rattle.chosen.proofs.role.Kinds as role
use Rattle.chosen.proofs.role.Reads as role-contract
use Rattle.chosen.proofs.proper.Kinds as proper
use Rattle.chosen.proofs.proper.Reads as proper-contract

pub role-settled : Settles role.ps role.r role-contract.Post
role-settled κs args = unique (λ o is. ap (λ r. (r, (tt, (tt, tt)))) is)

pub proper-settled : Settles proper.ps proper.r proper-contract.Post
proper-settled κs args = unique (λ o is. ap (λ r. (r, (tt, (tt, (tt, (tt, tt)))))) is)
