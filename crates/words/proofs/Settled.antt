-- Each contract of this crate settles the result and every lent byte.
-- Assumes nothing.
use mathlib.Core.Path.{ap}
use Rattle.octets.specs.Settles.{Settles}
use Rattle.octets.proofs.Unique.{unique}
use Rattle.words.proofs.word.Kinds as word
use Rattle.words.proofs.word.Reads as word-contract
use Rattle.words.proofs.four.Kinds as four
use Rattle.words.proofs.four.Reads as four-contract

pub word_settled : Settles word.ps word.r word-contract.Post
word_settled κs args = unique (λ o is. ap (λ r. (r, (tt, (tt, tt)))) is)

pub four_settled : Settles four.ps four.r four-contract.Post
four_settled κs args = unique (λ o is. ap (λ r. (r, (tt, tt))) is)
