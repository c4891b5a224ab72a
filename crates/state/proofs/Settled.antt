-- Each contract of this crate settles the result and every lent byte.
-- Assumes nothing.
use mathlib.Core.Path.{◌≡◌, sym, ap, ◌∙◌}
use contract.Lifetimes.{Lfts}
use borrow.Fn.Kinds.{Dens}
use Rattle.octets.specs.Settles.{Outcome, Allowed, Settles}
use Rattle.octets.proofs.Unique.{unique}
use Rattle.state.proofs.uses.Kinds as uses
use Rattle.state.proofs.uses.Reads as uses-contract
use Rattle.state.proofs.places.Kinds as places
use Rattle.state.proofs.places.Reads as places-contract
use Rattle.state.proofs.order.Kinds as order
use Rattle.state.proofs.order.Reads as order-contract
use Rattle.state.proofs.clear.Kinds as clear
use Rattle.state.proofs.clear.Reads as clear-contract

pub clear_settled : Settles clear.ps clear.r clear-contract.Post
clear_settled κs args = unique (λ o is. ap (λ v. (tt, (v, tt))) is)

-- Where the part that each of three hands back points, and what it shows.
module _ (κs : Lfts 1) (args : Dens κs uses.ps) (o p : Outcome uses.ps uses.r uses-contract.Post κs args) where
  pub uses-settled : Allowed uses.ps uses.r uses-contract.Post κs args o → Allowed uses.ps uses.r uses-contract.Post κs args p → (o.0.ref_ptr ≡ p.0.ref_ptr) × (o.0.now ≡ p.0.now)
  uses-settled is so = (is.1 ∙ sym so.1, is.0 ∙ sym so.0)

module _ (κs : Lfts 1) (args : Dens κs places.ps) (o p : Outcome places.ps places.r places-contract.Post κs args) where
  pub places-settled : Allowed places.ps places.r places-contract.Post κs args o → Allowed places.ps places.r places-contract.Post κs args p → (o.0.ref_ptr ≡ p.0.ref_ptr) × (o.0.now ≡ p.0.now)
  places-settled is so = (is.1 ∙ sym so.1, is.0 ∙ sym so.0)

module _ (κs : Lfts 1) (args : Dens κs order.ps) (o p : Outcome order.ps order.r order-contract.Post κs args) where
  pub order-settled : Allowed order.ps order.r order-contract.Post κs args o → Allowed order.ps order.r order-contract.Post κs args p → (o.0.ref_ptr ≡ p.0.ref_ptr) × (o.0.now ≡ p.0.now)
  order-settled is so = (is.1 ∙ sym so.1, is.0 ∙ sym so.0)
