-- The contract of each public function of this crate settles the result and every lent byte.
-- Assumes nothing.
use mathlib.Core.Path.{ap, ap₂}
use Rattle.octets.specs.Settles.{Settles}
use Rattle.octets.proofs.Unique.{unique}
use Rattle.echelon.proofs.eliminate.Kinds as eliminate
use Rattle.echelon.proofs.eliminate.Reads as eliminate-contract
use Rattle.echelon.proofs.ranked.Kinds as ranked
use Rattle.echelon.proofs.ranked.Reads as ranked-contract

pub eliminate_settled : Settles eliminate.ps eliminate.r eliminate-contract.Post
eliminate_settled κs args = unique (λ o is. ap₂ (λ r v. (r, (v, (tt, (tt, (tt, tt)))))) is.0 is.1)

pub ranked_settled : Settles ranked.ps ranked.r ranked-contract.Post
ranked_settled κs args = unique (λ o is. ap (λ r. (r, (tt, (tt, tt)))) is)
