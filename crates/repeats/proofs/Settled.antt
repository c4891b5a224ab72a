-- Each contract of this crate settles the result.
-- Assumes nothing.
use mathlib.Core.Path.{ap}
use Rattle.octets.specs.Settles.{Settles}
use Rattle.octets.proofs.Unique.{unique}
use Rattle.repeats.proofs.is_repeat.Kinds as is-repeat
use Rattle.repeats.proofs.is_repeat.Reads as is-repeat-contract
use Rattle.repeats.proofs.seed.Kinds as seed
use Rattle.repeats.proofs.seed.Reads as seed-contract

pub is_repeat-settled : Settles is-repeat.ps is-repeat.r is-repeat-contract.Post
is_repeat-settled κs args = unique (λ o is. ap (λ r. (r, (tt, (tt, (tt, tt))))) is)

pub seed-settled : Settles seed.ps seed.r seed-contract.Post
seed-settled κs args = unique (λ o is. ap (λ r. (r, (tt, (tt, (tt, tt))))) is)
