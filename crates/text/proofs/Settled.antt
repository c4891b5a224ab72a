-- Each contract of this crate settles the result and every lent byte.
-- Assumes nothing.
use mathlib.Core.Path.{ap₂}
use Rattle.octets.specs.Settles.{Settles}
use Rattle.octets.proofs.Unique.{unique}
use Rattle.text.proofs.unhex.Kinds as unhex
use Rattle.text.proofs.unhex.Reads as unhex-contract

pub unhex_settled : Settles unhex.ps unhex.r unhex-contract.Post
unhex_settled κs args = unique (λ o is. ap₂ (λ r frame. (r, (tt, (frame, tt)))) is.0 is.1)
