-- Each contract of this crate settles the answer and every lent byte.
-- Assumes nothing.
use mathlib.Core.Path.{ap₂}
use Rattle.octets.specs.Settles.{Settles}
use Rattle.octets.proofs.Unique.{unique}
use Rattle.entering.proofs.pass.Kinds as pass
use Rattle.entering.proofs.pass.Reads as pass-contract
use Rattle.entering.proofs.enter.Kinds as enter
use Rattle.entering.proofs.enter.Reads as enter-contract

pub pass-settled : Settles pass.ps pass.r pass-contract.Post
pass-settled κs args = unique (λ o is. ap₂ (λ r v. (r, (v, (tt, tt)))) is.0 is.1)

pub enter_settled : Settles enter.ps enter.r enter-contract.Post
enter_settled κs args = unique (λ o is. ap₂ (λ r v. (r, (v, (tt, tt)))) is.0 is.1)
