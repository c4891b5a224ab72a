-- Each contract of this crate settles the result and every lent byte.
-- Assumes nothing.
use mathlib.Core.Path.{ap, ap₂}
use Rattle.octets.specs.Settles.{Settles}
use Rattle.octets.proofs.Unique.{unique}
use Rattle.noting.proofs.put_arrival.Kinds as put-arrival
use Rattle.noting.proofs.put_arrival.Reads as put-arrival-contract
use Rattle.noting.proofs.forget.Kinds as forget
use Rattle.noting.proofs.forget.Reads as forget-contract
use Rattle.noting.proofs.note.Kinds as note
use Rattle.noting.proofs.note.Reads as note-contract

pub put_arrival_settled : Settles put-arrival.ps put-arrival.r put-arrival-contract.Post
put_arrival_settled κs args = unique (λ o is. ap (λ v. (tt, (v, (tt, (tt, tt))))) is)

pub forget_settled : Settles forget.ps forget.r forget-contract.Post
forget_settled κs args = unique (λ o is. ap (λ v. (tt, (v, tt))) is)

pub note-settled : Settles note.ps note.r note-contract.Post
note-settled κs args = unique (λ o is. ap₂ (λ r v. (r, (v, (tt, tt)))) is.0 is.1)
