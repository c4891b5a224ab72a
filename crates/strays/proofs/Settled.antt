-- Each contract of this crate settles its answer.
-- Assumes nothing.
use mathlib.Core.Path.{◌≡◌, refl, sym, ap, ◌∙◌}
use Prim.Native.Nat.{ℕ}
use native.Mathlib.Omega.{arith}
use Rattle.octets.specs.Settles.{Settles}
use Rattle.std.specs.Prelude.{Option, Some, None}
use Rattle.places.specs.declared.Arrival.{Arrival}
use Rattle.strays.specs.Strays.{stray_check}
use Rattle.strays.proofs.first_stray.Kinds as first-stray
use Rattle.strays.proofs.first_stray.Reads as first-stray-contract

-- what check 4 says names the row
stray-said : (a b : Option Arrival) → stray_check a ≡ stray_check b → a ≡ b
unfolding stray_check
stray-said (Some i) (Some j) e = cc
stray-said (Some i) None e = let z : ◌≡◌ {A = ℕ} 0 1 = cc in absurd (omega arith)
stray-said None (Some j) e = let z : ◌≡◌ {A = ℕ} 0 1 = cc in absurd (omega arith)
stray-said None None e = refl

pub first-stray-settled : Settles first-stray.ps first-stray.r first-stray-contract.Post
first-stray-settled κs args o p is so = ap (λ r. (r, (tt, (tt, (tt, tt))))) (stray-said o.0 p.0 (is ∙ sym so))
