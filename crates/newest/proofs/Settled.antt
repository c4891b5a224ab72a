-- The contract of `take` settles every lent byte.
-- Assumes nothing.
use mathlib.Core.Path.{ap}
use Rattle.octets.specs.Settles.{Settles}
use Rattle.octets.proofs.Unique.{unique}
use Rattle.newest.proofs.take.Kinds as takes
use Rattle.newest.proofs.take.Reads as take-contract

pub take-settled : Settles takes.ps takes.r take-contract.Post
take-settled κs args = unique (λ o is. ap (λ v. (tt, (v, tt))) is)
