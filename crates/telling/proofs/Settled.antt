-- Each contract of this crate settles the result.
-- Assumes nothing.
use mathlib.Core.Path.{ap}
use Rattle.octets.specs.Settles.{Settles}
use Rattle.octets.proofs.Unique.{unique}
use Rattle.telling.proofs.numbers_of.Kinds as Numbers-of
use Rattle.telling.proofs.numbers_of.Reads as numbers-of-contract
use Rattle.telling.proofs.told_by.Kinds as told-by
use Rattle.telling.proofs.told_by.Reads as told-by-contract

pub numbers_of-settled : Settles Numbers-of.ps Numbers-of.r numbers-of-contract.Post
numbers_of-settled κs args = unique (λ o is. ap (λ r. (r, (tt, tt))) is)

pub told_by-settled : Settles told-by.ps told-by.r told-by-contract.Post
told_by-settled κs args = unique (λ o is. ap (λ r. (r, (tt, tt))) is)
