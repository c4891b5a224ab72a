-- The contract of this crate settles the answer and every lent byte.
-- Assumes nothing.
use mathlib.Core.Path.{ap}
use Rattle.octets.specs.Settles.{Settles}
use Rattle.octets.proofs.Unique.{unique}
use Rattle.field.proofs.expect.Kinds as expect
use Rattle.field.proofs.expect.Reads as expect-contract

pub expect_settled : Settles expect.ps expect.r expect-contract.Post
expect_settled κs args = unique (λ o is. ap (λ r. (r, (tt, (tt, (tt, (tt, tt)))))) is)
