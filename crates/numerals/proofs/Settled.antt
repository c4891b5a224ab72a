-- Each contract of this crate settles the result and every lent byte.
-- Assumes nothing.
use mathlib.Core.Path.{ap}
use Rattle.octets.specs.Settles.{Settles}
use Rattle.octets.proofs.Unique.{unique}
use Rattle.numerals.proofs.put.Kinds as put
use Rattle.numerals.proofs.put.Reads as put-contract
use Rattle.numerals.proofs.get.Kinds as get
use Rattle.numerals.proofs.get.Reads as get-contract

pub put_settled : Settles put.ps put.r put-contract.Post
put_settled κs args = unique (λ o is. ap (λ v. (tt, (v, (tt, tt)))) is)

pub get_settled : Settles get.ps get.r get-contract.Post
get_settled κs args = unique (λ o is. ap (λ r. (r, (tt, tt))) is)
