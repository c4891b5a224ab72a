-- The contract of `tally` settles every lent byte.
-- Assumes nothing.
use mathlib.Core.Path.{ap}
use Rattle.octets.specs.Settles.{Settles}
use Rattle.octets.proofs.Unique.{unique}
use Rattle.tally.proofs.tally.Kinds as tally
use Rattle.tally.proofs.tally.Reads as tally-contract

pub tally_settled : Settles tally.ps tally.r tally-contract.Post
tally_settled κs args = unique (λ o is. ap (λ v. (tt, (v, (tt, (tt, tt))))) is)
