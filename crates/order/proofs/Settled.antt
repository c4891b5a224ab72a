-- Each contract of this crate settles the result and every lent byte.
-- Assumes nothing.
use mathlib.Core.Path.{ap, ap₂}
use Rattle.octets.specs.Settles.{Settles}
use Rattle.octets.proofs.Unique.{unique}
use Rattle.order.proofs.in_list_order.Kinds as in-list-order
use Rattle.order.proofs.in_list_order.Reads as in-list-order-contract
use Rattle.order.proofs.arrival.Kinds as arrival
use Rattle.order.proofs.arrival.Reads as arrival-contract

pub in_list_order-settled : Settles in-list-order.ps in-list-order.r in-list-order-contract.Post
in_list_order-settled κs args = unique (λ o is. ap₂ (λ r v. (r, (tt, (tt, (v, tt))))) is.0 is.1)

pub arrival-settled : Settles arrival.ps arrival.r arrival-contract.Post
arrival-settled κs args = unique (λ o is. ap (λ m. (record { 0 = m }, (tt, (tt, tt)))) is)
