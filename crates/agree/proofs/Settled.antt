-- The contract of `agrees` settles its answer.
-- Assumes nothing.
use mathlib.Core.Path.{ap}
use Rattle.octets.specs.Settles.{Settles}
use Rattle.octets.proofs.Unique.{unique}
use Rattle.agree.proofs.agrees.Kinds as agrees
use Rattle.agree.proofs.agrees.Reads as agrees-contract

pub agrees-settled : Settles agrees.ps agrees.r agrees-contract.Post
agrees-settled κs args = unique (λ o is. ap (λ answer. (answer, (tt, (tt, tt)))) is)
