-- `note` meets its contract: the working is lent and comes back with the seed noted.
-- Assumes nothing.
use native.Mathlib.Omega.{arith}
use mathlib.Core.Path.{◌≡◌, refl, ap, ◌∙◌}
use mathlib.Core.List.{List}
use Prim.Native.Nat.{ℕ}
use lib.ListN.{length, take, drop}
use Rattle.state.specs.Layout.{state_bytes}
use Rattle.noting.specs.Noting.{noted_in, noted_state}
use Rattle.store.specs.Store.{working_at, working_in, with_working}
use Rattle.store.proofs.Sizes.{sizes}
use Rattle.store.proofs.Back.{length-working, working-lent, working-back}
use Rattle.noticing.proofs.note.Goals as goal

pub slice_bounds-note-end : goal.slice_bounds-note-end
slice_bounds-note-end c = omega (arith, sizes, c.requires)

pub returns : goal.returns
returns c =
    let N = c.note in
    let lent : take 31872 (drop 32768 c.args.store.now) ≡ working_in c.args.store.now =
    working-lent c.args.store.now c.requires 32768 31872 (unfold working_at in refl) (unfold state_bytes in refl) in record {
      answer = N.ensures.answer ∙ ap (noted_in c.args.seed) lent;
      store = working-back c.args.store.now c.requires 32768 31872 N.new.state (unfold working_at in refl) (N.auto.state ∙ ap length lent ∙ length-working c.args.store.now c.requires ∙ omega (arith, sizes))
          ∙ ap (λ (w : List ℕ). with_working w c.args.store.now) (N.ensures.state ∙ ap (noted_state c.args.seed) lent);
    }
