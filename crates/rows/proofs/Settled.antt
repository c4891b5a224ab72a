-- Each contract of this crate settles the answer and every lent byte.
-- Assumes nothing.
use mathlib.Core.Path.{◌≡◌, ap}
use Rattle.octets.specs.Settles.{Settles}
use Rattle.octets.proofs.Unique.{unique}
use Rattle.rows.proofs.shaped.Kinds as shaped
use Rattle.rows.proofs.shaped.Reads as shaped-contract
use Rattle.rows.proofs.strays.Kinds as strays
use Rattle.rows.proofs.strays.Reads as strays-contract
use Rattle.rows.proofs.stride.Kinds as stride
use Rattle.rows.proofs.stride.Reads as stride-contract

pub stride_settled : Settles stride.ps stride.r stride-contract.Post
stride_settled κs args = unique (λ o is. ap (λ answer. (answer, (tt, tt))) is)

-- A function of two numbers that lends nothing and answers one value.
answer_only : {A : Type 0} {x y : A} → x ≡ y → ◌≡◌ {A = A × (Unit {0} × (Unit {0} × Unit {0}))} (x, (tt, (tt, tt))) (y, (tt, (tt, tt)))
answer_only e = ap (λ answer. (answer, (tt, (tt, tt)))) e

pub shaped_settled : Settles shaped.ps shaped.r shaped-contract.Post
shaped_settled κs args = unique (λ o is. answer_only is)

pub strays_settled : Settles strays.ps strays.r strays-contract.Post
strays_settled κs args = unique (λ o is. answer_only is)
