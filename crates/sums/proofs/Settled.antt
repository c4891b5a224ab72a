-- Each contract of this crate settles every lent byte.
-- Assumes nothing.
use mathlib.Core.Path.{ap}
use Rattle.octets.specs.Settles.{Settles}
use Rattle.octets.proofs.Unique.{unique}
use Rattle.sums.proofs.sum.Kinds as sum
use Rattle.sums.proofs.sum.Reads as sum-contract

pub sum-settled : Settles sum.ps sum.r sum-contract.Post
sum-settled κs args = unique (λ o is. ap (λ into. (tt, (into, (tt, (tt, tt))))) is)
