-- The contract of this crate settles the result.
-- Assumes nothing.
use mathlib.Core.Path.{ap}
use Rattle.octets.specs.Settles.{Settles}
use Rattle.octets.proofs.Unique.{unique}
use Rattle.answer_numbers.proofs.numbers_of.Kinds as Numbers-of
use Rattle.answer_numbers.proofs.numbers_of.Reads as numbers-of-contract

pub numbers_of-settled : Settles Numbers-of.ps Numbers-of.r numbers-of-contract.Post
numbers_of-settled κs args = unique (λ o is. ap (λ r. (r, (tt, tt))) is)
