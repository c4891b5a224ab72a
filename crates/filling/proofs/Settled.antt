-- The contract of `filling::fill` settles the answer and every byte of the slots.
-- Assumes nothing.
use mathlib.Core.Path.{ap}
use Rattle.octets.specs.Settles.{Settles}
use Rattle.octets.proofs.Unique.{unique}
use Rattle.filling.specs.Fill.{Filled}
use Rattle.filling.proofs.fill.Kinds as fill
use Rattle.filling.proofs.fill.Reads as fill-contract

pub fill-settled : Settles fill.ps fill.r fill-contract.Post
fill-settled κs args = unique (λ o is. ap (λ (f : Filled). (f.all, (tt, (tt, (tt, (f.slots, tt)))))) is)
