-- The contract of `open` settles the answer and every lent byte.
-- Assumes nothing.
use mathlib.Core.Path.{ap₂}
use Rattle.octets.specs.Settles.{Settles}
use Rattle.octets.proofs.Unique.{unique}
use Rattle.opening.proofs.open.Kinds as opens
use Rattle.opening.proofs.open.Reads as open-contract

pub open_settled : Settles opens.ps opens.r open-contract.Post
open_settled κs args = unique (λ o is. ap₂ (λ r v. (r, (v, (tt, (tt, (tt, tt)))))) is.0 is.1)
