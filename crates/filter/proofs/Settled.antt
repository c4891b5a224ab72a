-- The contract of this crate settles the result and every lent byte.
-- Assumes nothing.
use mathlib.Core.Path.{ap₂}
use Rattle.octets.specs.Settles.{Settles}
use Rattle.octets.proofs.Unique.{unique}
use Rattle.filter.proofs.note.Kinds as note
use Rattle.filter.proofs.note.Reads as note-contract

pub note-settled : Settles note.ps note.r note-contract.Post
note-settled κs args = unique (λ o is. ap₂ (λ r v. (r, (v, (tt, tt)))) is.0 is.1)
