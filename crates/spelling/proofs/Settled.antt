-- Each contract of this crate settles the result and every lent byte.
-- Assumes nothing.
use mathlib.Core.Path.{ap₂}
use Rattle.octets.specs.Settles.{Settles}
use Rattle.octets.proofs.Unique.{unique}
use Rattle.spelling.proofs.spell.Kinds as spell
use Rattle.spelling.proofs.spell.Reads as spell-contract

pub spell_settled : Settles spell.ps spell.r spell-contract.Post
spell_settled κs args = unique (λ o is. ap₂ (λ r text. (r, (tt, (text, tt)))) is.0 is.1)
