-- Each contract of this crate settles the result and every lent byte.
-- Assumes nothing.
use mathlib.Core.Path.{ap, ap₂}
use Rattle.octets.specs.Settles.{Settles}
use Rattle.octets.proofs.Unique.{unique}
use Rattle.places.proofs.give.Kinds as give
use Rattle.places.proofs.give.Reads as give-contract
use Rattle.places.proofs.give_none.Kinds as give-none
use Rattle.places.proofs.give_none.Reads as give-none-contract
use Rattle.places.proofs.given.Kinds as given
use Rattle.places.proofs.given.Reads as given-contract
use Rattle.places.proofs.uses.Kinds as uses
use Rattle.places.proofs.uses.Reads as uses-contract
use Rattle.places.proofs.no_uses.Kinds as no-uses
use Rattle.places.proofs.no_uses.Reads as no-uses-contract
use Rattle.places.proofs.name.Kinds as name
use Rattle.places.proofs.name.Reads as name-contract

pub give_settled : Settles give.ps give.r give-contract.Post
give_settled κs args = unique (λ o is. ap₂ (λ p v. (record { 0 = p }, (v, (tt, (tt, tt))))) is.0 is.1)

pub give_none_settled : Settles give-none.ps give-none.r give-none-contract.Post
give_none_settled κs args = unique (λ o is. ap (λ v. (tt, (v, (tt, tt)))) is)

pub given-settled : Settles given.ps given.r given-contract.Post
given-settled κs args = unique (λ o is. ap (λ r. (r, (tt, (tt, tt)))) is)

pub uses-settled : Settles uses.ps uses.r uses-contract.Post
uses-settled κs args = unique (λ o is. ap (λ r. (r, (tt, (tt, tt)))) is)

pub no_uses_settled : Settles no-uses.ps no-uses.r no-uses-contract.Post
no_uses_settled κs args = unique (λ o is. ap (λ v. (tt, (v, (tt, tt)))) is)

pub name_settled : Settles name.ps name.r name-contract.Post
name_settled κs args = unique (λ o is. ap (λ v. (tt, (v, (tt, tt)))) is)
