-- Each contract of this crate settles the result and every lent byte.
-- Assumes nothing.
use mathlib.Core.Path.{ap}
use Rattle.octets.specs.Settles.{Settles}
use Rattle.octets.proofs.Unique.{unique}
use Rattle.doubles.proofs.pair.Kinds as pair
use Rattle.doubles.proofs.pair.Reads as pair-contract
use Rattle.doubles.proofs.put_pair.Kinds as put-pair
use Rattle.doubles.proofs.put_pair.Reads as put-pair-contract

pub pair-settled : Settles pair.ps pair.r pair-contract.Post
pair-settled κs args = unique (λ o is. ap (λ r. (r, (tt, (tt, tt)))) is)

pub put_pair-settled : Settles put-pair.ps put-pair.r put-pair-contract.Post
put_pair-settled κs args = unique (λ o is. ap (λ v. (tt, (v, (tt, (tt, tt))))) is)
