-- Each contract of the boundary settles the result, every number and every lent byte.
-- Assumes nothing.
use mathlib.Core.Path.{ap, ap₂}
use Rattle.octets.specs.Settles.{Settles}
use Rattle.octets.proofs.Unique.{unique}
use Rattle.boundary_frames.proofs.mekorvat_read_frame.Kinds as read-frame
use Rattle.boundary_frames.proofs.mekorvat_read_frame.Reads as read-frame-contract
use Rattle.boundary_frames.proofs.mekorvat_lay.Kinds as lay
use Rattle.boundary_frames.proofs.mekorvat_lay.Reads as lay-contract

pub read-frame-settled : Settles read-frame.ps read-frame.r read-frame-contract.Post
read-frame-settled κs args =
    unique (λ o is. ap (λ v. (v.number, (tt, (v.place, (v.page, (v.n, (v.l, (v.seed, (v.offset, tt))))))))) is)

pub lay-settled : Settles lay.ps lay.r lay-contract.Post
lay-settled κs args =
    unique (λ o is. ap₂ (λ v list. (v.number, (tt, (tt, (tt, (tt, (tt, (list, (v.place, tt))))))))) is.0 is.1)
