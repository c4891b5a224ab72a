-- The contract of this crate settles every lent byte.
-- Assumes nothing.
use mathlib.Core.Path.{ap}
use Rattle.octets.specs.Settles.{Settles}
use Rattle.octets.proofs.Unique.{unique}
use Rattle.keeping.proofs.keep.Kinds as keep
use Rattle.keeping.proofs.keep.Reads as keep-contract

pub keep_settled : Settles keep.ps keep.r keep-contract.Post
keep_settled κs args = unique (λ o is. ap (λ v. (tt, (v, (tt, (tt, (tt, (tt, tt))))))) is)
