-- `attempt` meets its contract: the row with an empty tail is what is reduced, and it fits.
-- Assumes nothing.
use native.Mathlib.Omega.{arith}
use mathlib.Core.Path.{◌≡◌, sym, ap, ap₂, ◌∙◌}
use mathlib.Core.Bool.{true}
use mathlib.Core.List.{List, ◌++◌}
use Prim.Native.Nat.{ℕ, ◌-◌}
use lib.ListN.{length, take, replicate, length-replicate}
use Rattle.octets.specs.Octets.{number, bytes, over}
use Rattle.octets.proofs.Loaded.{loaded_is}
use Rattle.basis.specs.Algorithm2.{Pass}
use mathlib.Core.Logic.{inl, inr}
use Rattle.slots.specs.declared.Reduced.TheVariants.{Spent}
use Rattle.slots.specs.Reducing.{reducible, pass_of}
use Rattle.slots.proofs.Fits.{swept}
use Rattle.slots.proofs.Stopping.{stop-stopped, stop_spent, stop_misfit}
use Rattle.state.specs.Layout.{vector_bytes}
use Rattle.state.proofs.Sizes.{sizes}
use Rattle.absorb.specs.Absorbing.{pass_in}
use Rattle.absorb.proofs.Passing.{fits-row, pass_loaded}
use Rattle.absorb.proofs.attempt.Goals as goal
use Rattle.absorb.proofs.attempt.Goals.{After-slice_known-3-1}

module _ (c : After-slice_known-3-1) where
  abbrev row : List ℕ
  row = c.args.row.now

  abbrev state : List ℕ
  state = c.args.state.now

  -- the vector that is reduced
  abbrev vector : List ℕ
  vector = c.copy.new.into

  loaded : vector ≡ row ++ replicate (vector_bytes - length row) 0
  loaded =
      let zeros : length {A = ℕ} (replicate vector_bytes 0) ≡ vector_bytes = length-replicate vector_bytes 0 in
      c.copy.ensures ∙ ap (λ (v : List ℕ). over (take (length v) row) v) c.requires.empty
      ∙ (rw zeros at (loaded_is row (replicate vector_bytes 0) (omega (arith, zeros, sizes, c.requires.row))))

  wide : length vector ≡ vector_bytes
  wide = c.copy.auto.into ∙ ap length c.requires.empty ∙ length-replicate {A = ℕ} vector_bytes 0

  fitting : reducible (length row) (length vector) (length state) ≡ true
  fitting = rw wide (fits-row (length row) (length state) c.requires.row c.requires.whole)

  passed : pass_of (length row) state vector ≡ pass_in (length row) (number row) state
  passed = ap (pass_of (length row) state) loaded ∙ pass_loaded row state c.requires.row

  -- what is left of it
  left : c.reduce.new.work ≡ bytes vector_bytes (pass_in (length row) (number row) state).vector
  left = c.reduce.ensures.left ∙ sym (swept (length row) state vector fitting) ∙ ap₂ (λ (n : ℕ) (q : Pass). bytes n q.vector) wide passed

pub returns-in-Stopped : goal.returns-in-Stopped
returns-in-Stopped c =
    let k = (goal.at.returns-in-Stopped c).After-slice_known-3-1 in
    record { stop = stop-stopped (length (row k)) (state k) (vector k) (fitting k) _ (sym c.in-Stopped.is ∙ c.reduce.ensures.answer) ∙ ap (λ (q : Pass). q.stop) (passed k); left = left k }

pub returns-in-Spent : goal.returns-in-Spent
returns-in-Spent c =
    let k = (goal.at.returns-in-Spent c).After-slice_known-3-1 in
    let spent : c.reduce.result ≡ Spent = elim c.in-Spent.is [ inl e ↦ e | inr e ↦ absurd (stop_misfit (length (row k)) (state k) (vector k) (fitting k) (sym e ∙ c.reduce.ensures.answer)) ] in
    record { stop = stop_spent (length (row k)) (state k) (vector k) (fitting k) (sym spent ∙ c.reduce.ensures.answer) ∙ ap (λ (q : Pass). q.stop) (passed k); left = left k }
