-- Each contract of this crate settles the result and every lent byte.
-- Assumes nothing.
use mathlib.Core.Path.{ap}
use Rattle.octets.specs.Settles.{Settles}
use Rattle.octets.proofs.Unique.{unique}
use Rattle.vectors.proofs.load.Kinds as load
use Rattle.vectors.proofs.load.Reads as load-contract
use Rattle.vectors.proofs.plus.Kinds as plus
use Rattle.vectors.proofs.plus.Reads as plus-contract
use Rattle.vectors.proofs.store.Kinds as store
use Rattle.vectors.proofs.store.Reads as store-contract

pub load_settled : Settles load.ps load.r load-contract.Post
load_settled κs args = unique (λ o is. ap (λ r. (r, (tt, tt))) is)

pub plus-settled : Settles plus.ps plus.r plus-contract.Post
plus-settled κs args = unique (λ o is. ap (λ r. (r, (tt, (tt, tt)))) is)

pub store_settled : Settles store.ps store.r store-contract.Post
store_settled κs args = unique (λ o is. ap (λ v. (tt, (v, (tt, tt)))) is)
