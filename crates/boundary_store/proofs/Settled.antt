-- Each contract of the boundary of a store settles the result, every number and every lent byte.
-- Assumes nothing.
use mathlib.Core.Path.{ap, ap₂}
use Rattle.octets.specs.Settles.{Settles}
use Rattle.octets.proofs.Unique.{unique}
use Rattle.boundary_store.proofs.mekorvat_open.Kinds as opens
use Rattle.boundary_store.proofs.mekorvat_open.Reads as open-contract
use Rattle.boundary_store.proofs.mekorvat_offer.Kinds as offers
use Rattle.boundary_store.proofs.mekorvat_offer.Reads as offer-contract
use Rattle.boundary_store.proofs.mekorvat_ask.Kinds as asks
use Rattle.boundary_store.proofs.mekorvat_ask.Reads as ask-contract

pub open_settled : Settles opens.ps opens.r open-contract.Post
open_settled κs args = unique (λ o is. ap₂ (λ r v. (r, (v, (tt, (tt, (tt, tt)))))) is.0 is.1)

pub offer_settled : Settles offers.ps offers.r offer-contract.Post
offer_settled κs args = unique (λ o is. ap₂ (λ x v. (x.number, (v, (tt, (x.place, tt))))) is.0 is.1)

pub ask_settled : Settles asks.ps asks.r ask-contract.Post
ask_settled κs args =
    unique (λ o is. ap (λ x. (x.numbers.number, (tt, (x.lent.page, (x.lent.uses, (x.lent.roles, (x.lent.scratch, (x.numbers.rank, (x.numbers.place, (x.numbers.agreement, (x.rows, tt))))))))))) is)
