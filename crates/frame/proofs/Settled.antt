-- Each contract of this crate settles the answer and every lent byte.
-- Assumes nothing.
use mathlib.Core.Path.{◌≡◌, sym, ap, ◌∙◌}
use contract.Lifetimes.{Lfts}
use borrow.Fn.Kinds.{Dens}
use Rattle.octets.specs.Settles.{Settles, Outcome, Allowed}
use Rattle.octets.proofs.Unique.{unique}
use Rattle.frame.proofs.read.Kinds as read
use Rattle.frame.proofs.read.Reads as read-contract
use Rattle.frame.proofs.payload.Kinds as payload
use Rattle.frame.proofs.payload.Reads as payload-contract

pub read-settled : Settles read.ps read.r read-contract.Post
read-settled κs args = unique (λ o is. ap (λ r. (r, (tt, tt))) is)

-- Where the part that `payload` hands back points, and what it shows. (Its ghost name, the third thing of a reference in the logic, is
-- nothing that a program can see.)
pub payload-settled : (κs : Lfts 1) (args : Dens κs payload.ps) (o p : Outcome payload.ps payload.r payload-contract.Post κs args)
    → Allowed payload.ps payload.r payload-contract.Post κs args o → Allowed payload.ps payload.r payload-contract.Post κs args p
    → (o.0.ref_ptr ≡ p.0.ref_ptr) × (o.0.now ≡ p.0.now)
payload-settled κs args o p is so = (is.1 ∙ sym so.1, is.0 ∙ sym so.0)
