-- The contract of this crate settles its answer.
-- Assumes nothing.
use mathlib.Core.Path.{ap}
use Rattle.octets.specs.Settles.{Settles}
use Rattle.octets.proofs.Unique.{unique}
use Rattle.second_room.proofs.fits_too.Kinds as fits-too
use Rattle.second_room.proofs.fits_too.Reads as fits-too-contract

pub fits_too-settled : Settles fits-too.ps fits-too.r fits-too-contract.Post
fits_too-settled κs args = unique (λ o is. ap (λ answer. (answer, (tt, (tt, (tt, (tt, (tt, tt))))))) is)
