-- The contract of `writing::write` settles the answer and every lent byte.
-- Assumes nothing.
use Rattle.octets.specs.Settles.{Settles}
use Rattle.octets.proofs.Unique.{unique, decided}
use Rattle.writing.specs.Writing.{room_after, frame_of}
use Rattle.writing.proofs.write.Kinds as write
use Rattle.writing.proofs.write.Reads as write-contract

pub write_settled : Settles write.ps write.r write-contract.Post
write_settled κs args =
    unique (λ o is. decided (λ r v. (r, (tt, (tt, (tt, (tt, (tt, (v, tt))))))))
    (λ r. room_after r (frame_of args.0 args.1.0 args.1.1.0 args.1.1.1.0 args.1.1.1.1.0.now) args.1.1.1.1.1.0.now)
    is.0 is.1)
