-- The contract of this crate settles every lent byte.
-- Assumes nothing.
use mathlib.Core.Path.{ap}
use Rattle.octets.specs.Settles.{Settles}
use Rattle.octets.proofs.Unique.{unique}
use Rattle.counting.proofs.count.Kinds as count
use Rattle.counting.proofs.count.Reads as count-contract

pub count-settled : Settles count.ps count.r count-contract.Post
count-settled κs args = unique (λ o is. ap (λ v. (tt, (v, (tt, (tt, (tt, tt)))))) is)
