-- Each contract of this crate settles its result: a number, or where a part points and what it shows.
-- Assumes nothing.
use mathlib.Core.Path.{◌≡◌, sym, ap, ◌∙◌}
use contract.Lifetimes.{Lfts}
use borrow.Fn.Kinds.{Dens}
use Rattle.octets.specs.Settles.{Outcome, Allowed, Settles}
use Rattle.octets.proofs.Unique.{unique}
use Rattle.lists.proofs.count.Kinds as count
use Rattle.lists.proofs.count.Reads as count-contract
use Rattle.lists.proofs.entry.Kinds as entry
use Rattle.lists.proofs.entry.Reads as entry-contract
use Rattle.lists.proofs.row.Kinds as row
use Rattle.lists.proofs.row.Reads as row-contract

pub count-settled : Settles count.ps count.r count-contract.Post
count-settled κs args = unique (λ o is. ap (λ r. (r, (tt, (tt, tt)))) is)

module _ (κs : Lfts 1) (args : Dens κs entry.ps) where
  abbrev pub Entry : Type 0
  Entry = Outcome entry.ps entry.r entry-contract.Post κs args

  abbrev pub RightEntry : Entry → Type 0
  RightEntry = Allowed entry.ps entry.r entry-contract.Post κs args

  pub entry-settled : (o p : Entry) → RightEntry o → RightEntry p → (o.0.ref_ptr ≡ p.0.ref_ptr) × (o.0.now ≡ p.0.now)
  entry-settled o p is so = (is.1 ∙ sym so.1, is.0 ∙ sym so.0)

module _ (κs : Lfts 1) (args : Dens κs row.ps) where
  abbrev pub Row : Type 0
  Row = Outcome row.ps row.r row-contract.Post κs args

  abbrev pub RightRow : Row → Type 0
  RightRow = Allowed row.ps row.r row-contract.Post κs args

  pub row_settled : (o p : Row) → RightRow o → RightRow p → (o.0.ref_ptr ≡ p.0.ref_ptr) × (o.0.now ≡ p.0.now)
  row_settled o p is so = (is.1 ∙ sym so.1, is.0 ∙ sym so.0)
