-- The contract of `page_of_slots::write` settles every byte of the page.
-- Assumes nothing.
use mathlib.Core.Path.{ap}
use Rattle.octets.specs.Settles.{Settles}
use Rattle.octets.proofs.Unique.{unique}
use Rattle.page_of_slots.proofs.write.Kinds as write
use Rattle.page_of_slots.proofs.write.Reads as write-contract

pub write_settled : Settles write.ps write.r write-contract.Post
write_settled κs args = unique (λ o is. ap (λ p. (tt, (tt, (tt, (tt, (p, tt)))))) is)
