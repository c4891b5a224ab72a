-- Each contract of this crate settles the number and every byte of the room.
-- Assumes nothing.
use mathlib.Core.Path.{ap₂}
use Rattle.octets.specs.Settles.{Settles}
use Rattle.octets.proofs.Unique.{unique}
use Rattle.stack_check.proofs.stack_check_make.Kinds as make
use Rattle.stack_check.proofs.stack_check_make.Reads as make-contract
use Rattle.stack_check.proofs.stack_check_write.Kinds as write
use Rattle.stack_check.proofs.stack_check_write.Reads as write-contract

pub stack_check_make_settled : Settles make.ps make.r make-contract.Post
stack_check_make_settled κs args = unique (λ o is. ap₂ (λ r v. (r, (tt, (tt, (tt, (tt, (tt, (v, tt)))))))) is.0 is.1)

pub stack_check_write_settled : Settles write.ps write.r write-contract.Post
stack_check_write_settled κs args = unique (λ o is. ap₂ (λ r v. (r, (tt, (tt, (tt, (tt, (tt, (v, tt)))))))) is.0 is.1)
