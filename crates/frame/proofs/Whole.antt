-- Fields: what looking at one tells; and a whole one ends inside the frame.
-- Assumes nothing.
use mathlib.Core.Path.{◌≡◌, refl, subst}
use Prim.Native.Nat.{ℕ, ◌+◌, ◌<◌, ◌≤◌}
use native.Mathlib.Omega.{arith}
use mathlib.Core.Bool.{not}
use mathlib.Core.List.{List}
use lib.Dec.{eqb, ltb}
use lib.ListN.{length, get_or, take, drop, length-drop}
use borrow.Author.Tests.{ltb-true, ltb-false, eqb-true, eqb-false, not-true, not-false, le-ltb, eq-eqb}
use Rattle.octets.specs.Octets.{number}
use Rattle.std.proofs.Common.{Result, Ok, Err}
use Rattle.field.specs.declared.Fault.{Fault}
use Rattle.field.specs.declared.Fault.TheVariants as fault
use Rattle.field.specs.Expected.{field_of, placed, expected}
use Rattle.frame.proofs.Tests.{either}

-- What a whole field has.
pub record Whole (rest : List ℕ) (tag size : ℕ) : Type 0 where
  pub tagged : get_or rest 0 0 ≡ tag
  pub sized : number (take 2 (drop 1 rest)) ≡ size
  pub ends : 3 + size ≤ length rest

-- What each answer of looking at a field tells of the bytes that remain.
abbrev pub Told : List ℕ → ℕ → ℕ → Result Unit Fault → Type 0
Told rest tag size (Ok _) = Whole rest tag size
Told rest tag size (Err fault.Short) = length rest < 3 + size
Told rest tag size (Err fault.WrongTag) = (3 ≤ length rest) × (get_or rest 0 0 ≡ tag → ⊥)
Told rest tag size (Err fault.WrongLength) = (3 ≤ length rest) × (number (take 2 (drop 1 rest)) ≡ size → ⊥)

pub told : (rest : List ℕ) (tag size : ℕ) → Told rest tag size (field_of rest tag size)
unfolding field_of
told rest tag size =
    let T = Told rest tag size in
    let stated : ℕ = number (take 2 (drop 1 rest)) in
    either T (ltb (length rest) 3) (Err fault.Short) _ (λ short. omega (arith, ltb-true (length rest) 3 short)) (λ marked.
    let three : 3 ≤ length rest = ltb-false (length rest) 3 marked in
    either T (not (eqb (get_or rest 0 0) tag)) (Err fault.WrongTag) _ (λ e. (three, eqb-false _ _ (not-true _ e))) (λ tagged.
    either T (not (eqb stated size)) (Err fault.WrongLength) _ (λ e. (three, eqb-false _ _ (not-true _ e))) (λ sized.
    either T (ltb (length rest) (3 + size)) (Err fault.Short) (Ok tt) (λ e. ltb-true (length rest) (3 + size) e) (λ there.
    record {
      tagged = eqb-true (get_or rest 0 0) tag (not-false _ tagged);
      sized = eqb-true stated size (not-false _ sized);
      ends = ltb-false (length rest) (3 + size) there;
    }))))

pub whole : (rest : List ℕ) (tag size : ℕ) → field_of rest tag size ≡ Ok tt → Whole rest tag size
whole rest tag size e = subst (Told rest tag size) e (told rest tag size)

pub whole_found : (rest : List ℕ) (tag size : ℕ) → Whole rest tag size → field_of rest tag size ≡ Ok tt
unfolding field_of
whole_found rest tag size w =
    let head : 3 ≤ length rest = omega (arith, w.ends) in
    rw (le-ltb _ _ head, eq-eqb _ _ w.tagged, eq-eqb _ _ w.sized, le-ltb _ _ w.ends)

module _ (frame : List ℕ) (at tag size : ℕ) where
  -- a field is expected where it is whole
  placed-whole : (f : Result Unit Fault) → placed frame at f ≡ Ok tt → f ≡ Ok tt
  unfolding placed
  placed-whole (Ok tt) e = refl
  placed-whole (Err why) e = cc

  pub expected-whole : expected frame at tag size ≡ Ok tt → Whole (drop at frame) tag size
  unfolding expected
  expected-whole e = whole (drop at frame) tag size (placed-whole (field_of (drop at frame) tag size) e)

  pub expected_ends : expected frame at tag size ≡ Ok tt → at + (3 + size) ≤ length frame
  expected_ends e = omega (arith, (expected-whole e).ends, length-drop at frame)
