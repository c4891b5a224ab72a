-- The contract of this crate settles every lent element, whatever elements hold the uses.
-- Assumes nothing.
use mathlib.Core.Path.{ap₂}
use denote.RattleType.{RattleType}
use denote.Param.Laws.{Laws}
use mir.Syntax.{Dict}
use Rattle.octets.specs.Settles.{Settles}
use Rattle.octets.proofs.Unique.{unique}
use Rattle.marks.specs.declared.Uses as uses
use Rattle.ends.proofs.end.Kinds as end
use Rattle.ends.proofs.end.Reads as end-contract

pub end_settled : (U : RattleType) (laws : Laws U) (form : uses.Ghosts U.Denot) (code : Dict)
    → Settles (end.ps U laws) (end.r U laws) (end-contract.Post U laws form code)
end_settled U laws form code κs args = unique (λ o is. ap₂ (λ u s. (tt, (tt, (tt, (u, (s, tt)))))) is.0 is.1)
