-- Each contract of this crate settles its answer.
-- Assumes nothing.
use mathlib.Core.Path.{◌≡◌, refl, sym, ap, ◌∙◌}
use Prim.Native.Nat.{ℕ}
use native.Mathlib.Omega.{arith}
use Rattle.octets.specs.Settles.{Settles}
use Rattle.std.specs.Prelude.{Result, Ok, Err}
use Rattle.reading.specs.declared.Answer.{Answer}
use Rattle.checks.specs.Checks.{check_of}
use Rattle.checks.proofs.all.Kinds as all
use Rattle.checks.proofs.all.Reads as all-contract

-- no two answers look the same to the definition
all_said : (a b : Result (Unit {0}) Answer) → check_of a ≡ check_of b → a ≡ b
unfolding check_of
all_said (Err x) (Err y) e = cc
all_said (Err x) (Ok _) e = let z : ◌≡◌ {A = ℕ} 0 1 = cc in absurd (omega arith)
all_said (Ok _) (Err y) e = let z : ◌≡◌ {A = ℕ} 0 1 = cc in absurd (omega arith)
all_said (Ok _) (Ok _) e = refl

pub all_settled : Settles all.ps all.r all-contract.Post
all_settled κs args o p is so = ap (λ r. (r, (tt, (tt, (tt, (tt, tt)))))) (all_said o.0 p.0 (is ∙ sym so))
