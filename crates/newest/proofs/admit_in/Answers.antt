-- `admit_in` meets its contract: the store is cut at the working, whose front is lent and comes back with the row taken in.
-- Assumes nothing.
use native.Mathlib.Omega.{arith}
use mathlib.Core.Path.{◌≡◌, refl, sym, ap, ap₂, ◌∙◌}
use mathlib.Core.List.{List}
use Prim.Native.Nat.{ℕ}
use lib.ListN.{length, take}
use lib.Seq.{length-take-le}
use Rattle.lists.specs.Lists.{row_at}
use Rattle.absorb.specs.Absorbing.{Absorption}
use Rattle.state.specs.Layout.{state_bytes}
use Rattle.store.specs.Store.{list_at, working_at, list_in, working_in, with_working}
use Rattle.store.proofs.Sizes.{sizes}
use Rattle.store.proofs.Back.{length-working, working-lent, list_cut, working_cut}
use Rattle.newest.specs.Newest.{admission}
use Rattle.newest.proofs.admit_in.Goals as goal

pub split_at_mut-front-requires : goal.split_at_mut-front-requires
split_at_mut-front-requires c = omega (arith, sizes, c.requires)

pub slice_bounds-admit-end : goal.slice_bounds-admit-end
slice_bounds-admit-end c = omega (arith, sizes, c.requires, c.split_at_mut-front.ensures.back_len)

pub slice_bounds-admit-end-2 : goal.slice_bounds-admit-end-2
slice_bounds-admit-end-2 c = sym (length-take-le 31872 c.split_at_mut-front.result.1.now (omega (arith, sizes, c.requires, c.split_at_mut-front.ensures.back_len)))

pub returns : goal.returns
unfolding list_at working_at state_bytes
returns c =
    let store = c.args.store.now in
    let head = c.args.head in
    let cut = c.split_at_mut-front in
    let M = c.admit in
    let row : c.row-row.result.now ≡ row_at head.l head.rows (list_in store) = c.row-row.ensures.shows ∙ ap (row_at head.l head.rows) (list_cut store c.requires cut.result.0.now cut.ensures.front) in
    let working : take 31872 cut.result.1.now ≡ working_in store = ap (take 31872) cut.ensures.back ∙ working-lent store c.requires 32768 31872 refl refl in
    let is = ap₂ (λ (r w : List ℕ). admission r head.rows head.taken head.rank w) row working in
    record {
      answer = M.ensures.answer ∙ ap (λ (a : Absorption). a.answer) is;
      store = working_cut store c.requires cut.result.0.now cut.result.1.now M.new.working cut.ensures.front cut.ensures.back (M.auto.working ∙ ap length working ∙ length-working store c.requires)
          ∙ ap (λ (w : List ℕ). with_working w store) (M.ensures.working ∙ ap (λ (a : Absorption). a.state) is);
    }
