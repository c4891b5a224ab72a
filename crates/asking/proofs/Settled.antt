-- The contract of `asking::ask` settles the answer and every lent byte.
-- Assumes nothing.
use mathlib.Core.Path.{ap}
use Rattle.octets.specs.Settles.{Settles}
use Rattle.octets.proofs.Unique.{unique}
use Rattle.asking.proofs.ask.Kinds as ask
use Rattle.asking.proofs.ask.Reads as ask-contract

pub ask_settled : Settles ask.ps ask.r ask-contract.Post
ask_settled κs args = unique (λ o is. ap (λ x. (x.answer, (tt, (x.lent.page, (x.lent.uses, (x.lent.roles, (x.lent.scratch, tt))))))) is)
