-- The contract of this crate's public function settles the result and every lent byte.
-- Assumes nothing.
use mathlib.Core.Path.{ap₂}
use Rattle.octets.specs.Settles.{Settles}
use Rattle.octets.proofs.Unique.{unique}
use Rattle.absorb.proofs.absorb.Kinds as absorb
use Rattle.absorb.proofs.absorb.Reads as absorb-contract

pub absorb_settled : Settles absorb.ps absorb.r absorb-contract.Post
absorb_settled κs args = unique (λ o is. ap₂ (λ r v. (r, (v, (tt, (tt, (tt, tt)))))) is.0 is.1)
