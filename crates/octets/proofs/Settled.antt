-- Each contract of this crate settles the result and every lent byte.
-- Assumes nothing.
use mathlib.Core.Path.{ap}
use Rattle.octets.specs.Settles.{Settles}
use Rattle.octets.proofs.Unique.{unique}
use Rattle.octets.proofs.add.Kinds as add
use Rattle.octets.proofs.add.Reads as add-contract
use Rattle.octets.proofs.clear.Kinds as clear
use Rattle.octets.proofs.clear.Reads as clear-contract
use Rattle.octets.proofs.copy.Kinds as copy
use Rattle.octets.proofs.copy.Reads as copy_contract
use Rattle.octets.proofs.least.Kinds as least
use Rattle.octets.proofs.least.Reads as least-contract

pub add_settled : Settles add.ps add.r add-contract.Post
add_settled κs args = unique (λ o is. ap (λ v. (tt, (v, (tt, tt)))) is)

pub clear_settled : Settles clear.ps clear.r clear-contract.Post
clear_settled κs args = unique (λ o is. ap (λ v. (tt, (v, tt))) is)

pub copy_settled : Settles copy.ps copy.r copy_contract.Post
copy_settled κs args = unique (λ o is. ap (λ v. (tt, (v, (tt, tt)))) is)

pub least-settled : Settles least.ps least.r least-contract.Post
least-settled κs args = unique (λ o is. ap (λ r. (r, (tt, (tt, tt)))) is)
