-- `entering::put_in` meets its contract: what the pass leaves goes where it stopped.
-- Assumes nothing.
use mathlib.Core.Path.{◌≡◌, sym, ◌∙◌}
use mathlib.Core.Logic.{inl, inr}
use Prim.Native.Nat.{ℕ, ◌≤◌}
use mathlib.Core.List.{List}
use lib.ListN.{length}
use Rattle.slots.specs.declared.Reduced.{Reduced}
use Rattle.slots.specs.declared.Reduced.TheVariants.{Spent, Misfit}
use Rattle.slots.specs.Reducing.{stop_of, reduce_answer}
use Rattle.slots.proofs.Stopping.{stopped_at, spent_at, misfit_never}
use Rattle.entering.specs.Enter.{slot_bytes, whole_pass}
use Rattle.entering.proofs.Slots.{whole-answer, whole-left}
use Rattle.entering.proofs.Entered.{in_stopped, in_spent}
use Rattle.entering.proofs.put_in.Goals as goal

-- what the pass of the vector says
said : (slots vector : List ℕ) (r : Reduced) → length slots ≡ slot_bytes → length vector ≡ 80 → r ≡ reduce_answer 8 slots vector → r ≡ stop_of 64 (whole_pass slots vector)
said slots vector r all one e = e ∙ whole-answer slots vector one all

pub store-requires : goal.store-requires
store-requires c =
    let slots = c.args.slots.now in
    let vector = c.args.work.now in
    let stop = stopped_at 64 (whole_pass slots vector) c.in-Stopped.t (sym (said slots vector c.pass.result c.requires.slots c.requires.wide c.pass.ensures.answer) ∙ c.in-Stopped.is) in
    record { slot = stop.1; slots = c.requires.slots; wide = c.pass.auto.work ∙ c.requires.wide }

pub returns-in-Stopped : goal.returns-in-Stopped
returns-in-Stopped c =
    let slots = c.args.slots.now in
    let vector = c.args.work.now in
    let stop = stopped_at 64 (whole_pass slots vector) c.in-Stopped.t (sym (said slots vector c.pass.result c.requires.slots c.requires.wide c.pass.ensures.answer) ∙ c.in-Stopped.is) in
    let told = in_stopped slots vector c.in-Stopped.t stop c.pass.new.work c.store.new.slots (c.pass.ensures.left ∙ whole-left slots vector c.requires.wide c.requires.slots) c.store.ensures in
    record { answer = told.0; slots = told.1 }

pub returns-in-Spent : goal.returns-in-Spent
returns-in-Spent c =
    let slots = c.args.slots.now in
    let vector = c.args.work.now in
    let is : (r : Reduced) → c.pass.result ≡ r → stop_of 64 (whole_pass slots vector) ≡ r = λ r e. sym (said slots vector c.pass.result c.requires.slots c.requires.wide c.pass.ensures.answer) ∙ e in
    let past : 64 ≤ (whole_pass slots vector).stop = elim c.in-Spent.is [
      | inl e ↦ spent_at 64 (whole_pass slots vector) (is Spent e)
      | inr e ↦ absurd (misfit_never 64 (whole_pass slots vector) (is Misfit e))
    ] in
    let told = in_spent slots vector past in
    record { answer = told.0; slots = told.1 }
