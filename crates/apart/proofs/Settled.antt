-- The contract of `apart::gather` settles the count and every byte of the room.
-- Assumes nothing.
use mathlib.Core.Path.{ap}
use Rattle.octets.specs.Settles.{Settles}
use Rattle.octets.proofs.Unique.{unique}
use Rattle.apart.specs.Apart.{Gathered}
use Rattle.apart.proofs.gather.Kinds as gather
use Rattle.apart.proofs.gather.Reads as gather-contract

pub gather_settled : Settles gather.ps gather.r gather-contract.Post
gather_settled κs args = unique (λ o is. ap (λ (x : Gathered). (x.rows, (tt, (tt, (tt, (x.list, tt)))))) is)
