-- The contract of `offer` settles the answer and every lent byte.
-- Assumes nothing.
use mathlib.Core.Path.{ap₂}
use Rattle.octets.specs.Settles.{Settles}
use Rattle.octets.proofs.Unique.{unique}
use Rattle.offering.proofs.offer.Kinds as offer
use Rattle.offering.proofs.offer.Reads as offer-contract

pub offer_settled : Settles offer.ps offer.r offer-contract.Post
offer_settled κs args = unique (λ o is. ap₂ (λ r v. (r, (v, (tt, tt)))) is.0 is.1)
