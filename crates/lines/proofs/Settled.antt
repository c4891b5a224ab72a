-- The contract of `lines::take` settles the result and every lent byte.
-- Assumes nothing.
use mathlib.Core.Path.{ap₂}
use Rattle.octets.specs.Settles.{Settles}
use Rattle.octets.proofs.Unique.{unique}
use Rattle.lines.proofs.take.Kinds as take
use Rattle.lines.proofs.take.Reads as take-contract

pub take-settled : Settles take.ps take.r take-contract.Post
take-settled κs args = unique (λ o is. ap₂ (λ r list. (r, (tt, (tt, (list, tt))))) is.0 is.1)
