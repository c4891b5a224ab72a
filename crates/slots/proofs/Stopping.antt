-- Where a pass stopped, by the answer of `reduce`.
-- Assumes nothing.
use mathlib.Core.Path.{◌≡◌, refl, sym, ◌∙◌}
use Prim.Native.Nat.{ℕ, ◌-◌, ◌*◌, ◌≤◌, ◌<◌}
use native.Mathlib.Omega.{arith}
use mathlib.Core.Bool.{Bool, true, false, cond}
use mathlib.Core.List.{List}
use lib.Dec.{ltb}
use lib.ListN.{length}
use borrow.Author.Tests.{ltb-true, ltb-false}
use Rattle.octets.specs.Octets.{number}
use Rattle.octets.proofs.Runs.{length-numbers}
use Rattle.basis.specs.Algorithm2.{Pass}
use Rattle.basis.proofs.Passes.{pass-stop_le}
use Rattle.slots.specs.declared.Reduced.{Reduced}
use Rattle.slots.specs.declared.Reduced.TheVariants.{Stopped, Spent, Misfit}
use Rattle.slots.specs.Reducing.{reducible, slots_of, pass_of, stop_of, reduce_answer}

pub stopped_at : (n : ℕ) (p : Pass) (t : ℕ) → stop_of n p ≡ Stopped t → (p.stop ≡ t) × (t < n)
unfolding stop_of
stopped_at n p t e = go (ltb p.stop n) refl e
  where
    go : (b : Bool) → ltb p.stop n ≡ b → cond b (Stopped p.stop) Spent ≡ Stopped t → (p.stop ≡ t) × (t < n)
    go true h q = let same : p.stop ≡ t = cc in (same, rw same at (ltb-true p.stop n h))
    go false h q = let z : ◌≡◌ {A = ℕ} 0 1 = cc in absurd (omega arith)

pub spent_at : (n : ℕ) (p : Pass) → stop_of n p ≡ Spent → n ≤ p.stop
unfolding stop_of
spent_at n p e = go (ltb p.stop n) refl e
  where
    go : (b : Bool) → ltb p.stop n ≡ b → cond b (Stopped p.stop) Spent ≡ Spent → n ≤ p.stop
    go true h q = let z : ◌≡◌ {A = ℕ} 0 1 = cc in absurd (omega arith)
    go false h q = ltb-false p.stop n h

pub misfit_never : (n : ℕ) (p : Pass) → stop_of n p ≡ Misfit → ⊥
unfolding stop_of
misfit_never n p e = go (ltb p.stop n) e
  where
    go : (b : Bool) → cond b (Stopped p.stop) Spent ≡ Misfit → ⊥
    go true q = let z : ◌≡◌ {A = ℕ} 0 1 = cc in omega arith
    go false q = let z : ◌≡◌ {A = ℕ} 0 1 = cc in omega arith

-- ---- of what fits

module _ (key : ℕ) (slots work : List ℕ) (f : reducible key (length work) (length slots) ≡ true) where
  stop : (r : Reduced) → r ≡ reduce_answer key slots work → stop_of (8 * key) (pass_of key slots work) ≡ r
  unfolding reduce_answer
  stop r e = sym (e ∙ rw f)

  pub stop-stopped : (t : ℕ) → Stopped t ≡ reduce_answer key slots work → t ≡ (pass_of key slots work).stop
  stop-stopped t e = sym (stopped_at (8 * key) (pass_of key slots work) t (stop (Stopped t) e)).0

  pub stop_spent : Spent ≡ reduce_answer key slots work → 8 * key ≡ (pass_of key slots work).stop
  unfolding pass_of slots_of
  stop_spent e =
      omega (
        arith,
        spent_at (8 * key) (pass_of key slots work) (stop Spent e),
        pass-stop_le (8 * (length work - key)) (slots_of key (length work) slots) (number work),
        length-numbers (length work) (8 * key) slots,
      )

  pub stop_misfit : Misfit ≡ reduce_answer key slots work → ⊥
  stop_misfit e = misfit_never (8 * key) (pass_of key slots work) (stop Misfit e)
