-- The contract of `is_repeat` settles the answer and every lent byte.
-- Assumes nothing.
use mathlib.Core.Path.{ap₂}
use Rattle.octets.specs.Settles.{Settles}
use Rattle.octets.proofs.Unique.{unique}
use Rattle.noticing.proofs.is_repeat.Kinds as is-repeat
use Rattle.noticing.proofs.is_repeat.Reads as is-repeat-contract

pub is_repeat-settled : Settles is-repeat.ps is-repeat.r is-repeat-contract.Post
is_repeat-settled κs args = unique (λ o is. ap₂ (λ r v. (r, (v, (tt, (tt, tt))))) is.0 is.1)
