-- Each contract of this crate settles the result and every lent byte.
-- Assumes nothing.
use mathlib.Core.Path.{ap}
use Rattle.octets.specs.Settles.{Settles}
use Rattle.octets.proofs.Unique.{unique}
use Rattle.bits.proofs.top.Kinds as top
use Rattle.bits.proofs.top.Reads as top-contract
use Rattle.bits.proofs.bottom.Kinds as bottom
use Rattle.bits.proofs.bottom.Reads as bottom-contract
use Rattle.bits.proofs.without_bottom.Kinds as without-bottom
use Rattle.bits.proofs.without_bottom.Reads as without-bottom-contract
use Rattle.bits.proofs.low.Kinds as low
use Rattle.bits.proofs.low.Reads as low-contract
use Rattle.bits.proofs.set_bits.Kinds as set-bits
use Rattle.bits.proofs.set_bits.Reads as set-bits-contract

pub top_settled : Settles top.ps top.r top-contract.Post
top_settled κs args = unique (λ o is. ap (λ r. (r, (tt, tt))) is)

pub bottom_settled : Settles bottom.ps bottom.r bottom-contract.Post
bottom_settled κs args = unique (λ o is. ap (λ r. (r, (tt, tt))) is)

pub without_bottom_settled : Settles without-bottom.ps without-bottom.r without-bottom-contract.Post
without_bottom_settled κs args = unique (λ o is. ap (λ r. (r, (tt, tt))) is)

pub low_settled : Settles low.ps low.r low-contract.Post
low_settled κs args = unique (λ o is. ap (λ r. (r, (tt, (tt, tt)))) is)

pub set_bits_settled : Settles set-bits.ps set-bits.r set-bits-contract.Post
set_bits_settled κs args = unique (λ o is. ap (λ r. (record { rest = r }, (tt, tt))) is)
