-- Each contract of this crate settles the result.
-- Assumes nothing.
use mathlib.Core.Path.{◌≡◌, sym, ap, ◌∙◌}
use contract.Lifetimes.{Lfts}
use borrow.Fn.Kinds.{Dens}
use Rattle.octets.specs.Settles.{Outcome, Allowed, Settles}
use Rattle.octets.proofs.Unique.{unique}
use Rattle.store.proofs.check.Kinds as check
use Rattle.store.proofs.check.Reads as check-contract
use Rattle.store.proofs.list.Kinds as list
use Rattle.store.proofs.list.Reads as list-contract
use Rattle.store.proofs.working.Kinds as working
use Rattle.store.proofs.working.Reads as working-contract

pub check_settled : Settles check.ps check.r check-contract.Post
check_settled κs args = unique (λ o is. ap (λ answer. (answer, (tt, tt))) is)

-- Where the part that each of two hands back points, and what it shows.
module _ (κs : Lfts 1) (args : Dens κs list.ps) (o p : Outcome list.ps list.r list-contract.Post κs args) where
  pub list-settled : Allowed list.ps list.r list-contract.Post κs args o → Allowed list.ps list.r list-contract.Post κs args p → (o.0.ref_ptr ≡ p.0.ref_ptr) × (o.0.now ≡ p.0.now)
  list-settled is so = (is.1 ∙ sym so.1, is.0 ∙ sym so.0)

module _ (κs : Lfts 1) (args : Dens κs working.ps) (o p : Outcome working.ps working.r working-contract.Post κs args) where
  pub working-settled : Allowed working.ps working.r working-contract.Post κs args o → Allowed working.ps working.r working-contract.Post κs args p → (o.0.ref_ptr ≡ p.0.ref_ptr) × (o.0.now ≡ p.0.now)
  working-settled is so = (is.1 ∙ sym so.1, is.0 ∙ sym so.0)
