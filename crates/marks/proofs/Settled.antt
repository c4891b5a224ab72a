-- The contract of this crate settles every lent element, whatever elements hold the uses.
-- Assumes nothing.
use mathlib.Core.Path.{ap}
use denote.RattleType.{RattleType}
use denote.Param.Laws.{Laws}
use mir.Syntax.{Dict}
use Rattle.octets.specs.Settles.{Settles}
use Rattle.octets.proofs.Unique.{unique}
use Rattle.marks.specs.declared.Uses as uses
use Rattle.marks.proofs.put_uses.Kinds as put-uses
use Rattle.marks.proofs.put_uses.Reads as put-uses-contract

pub put_uses_settled : (U : RattleType) (laws : Laws U) (form : uses.Ghosts U.Denot) (code : Dict)
    → Settles (put-uses.ps U laws) (put-uses.r U laws) (put-uses-contract.Post U laws form code)
put_uses_settled U laws form code κs args = unique (λ o is. ap (λ v. (tt, (tt, (tt, (v, tt))))) is)
