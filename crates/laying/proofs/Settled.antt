-- Each contract of this crate settles the answer and every lent byte.
-- Assumes nothing.
use Prim.Native.Nat.{◌*◌}
use Rattle.octets.specs.Settles.{Settles}
use Rattle.octets.proofs.Unique.{unique, decided}
use Rattle.rows.specs.Rows.{list_row_bytes}
use Rattle.laying.specs.Laying.{list_after, frame_entry}
use Rattle.laying.proofs.lay.Kinds as lay
use Rattle.laying.proofs.lay.Reads as lay-contract

pub lay-settled : Settles lay.ps lay.r lay-contract.Post
lay-settled κs args =
    unique (λ o is. decided (λ r v. (r, (tt, (tt, (tt, (tt, (tt, (v, tt))))))))
    (λ r. list_after r (list_row_bytes args.1.1.1.0 * args.1.1.1.1.0.0) (frame_entry args.0.now) args.1.1.1.1.1.0.now)
    is.0 is.1)
