-- `lay` meets its contract: the list is lent and comes back with the row laid, or as it was.
-- Assumes nothing.
use native.Mathlib.Omega.{arith}
use mathlib.Core.Path.{◌≡◌, refl, ap, ap₂, ◌∙◌}
use mathlib.Core.List.{List}
use Prim.Native.Nat.{ℕ, ◌*◌}
use lib.ListN.{length, take, drop}
use Rattle.rows.specs.Rows.{list_row_bytes}
use Rattle.std.proofs.Common.{Result}
use Rattle.laying.specs.declared.Refusal.{Refusal}
use Rattle.laying.specs.Laying.{laid, list_after, frame_entry}
use Rattle.store.specs.Store.{list_at, list_room, list_in, with_list}
use Rattle.store.proofs.Sizes.{sizes}
use Rattle.store.proofs.Back.{length-list, list-lent, list_back}
use Rattle.offering.specs.Offering.{laid_in, laid_store}
use Rattle.offering.proofs.lay.Goals as goal

pub slice_bounds-lay-end : goal.slice_bounds-lay-end
slice_bounds-lay-end c = omega (arith, sizes, c.requires)

pub returns : goal.returns
unfolding laid_in laid_store
returns c =
    let A = c.args in
    let L = c.lay in
    let lent : take 32752 (drop 16 A.store.now) ≡ list_in A.store.now =
    list-lent A.store.now c.requires 16 32752 (unfold list_at in refl) (unfold list_room in refl) in
    let said = L.ensures.answer ∙ ap (λ (list : List ℕ). laid A.frame.now A.head.page A.head.n A.head.l A.head.rows list) lent in record {
      answer = said;
      store = list_back A.store.now c.requires 16 32752 L.new.list (unfold list_at in refl)
          (L.auto.list ∙ ap length lent ∙ length-list A.store.now c.requires ∙ omega (arith, sizes))
          ∙ ap (λ (list : List ℕ). with_list list A.store.now)
          (L.ensures.list ∙ ap₂ (λ (a : Result Unit Refusal) (list : List ℕ). list_after a (list_row_bytes A.head.l * A.head.rows) (frame_entry A.frame.now) list) said lent);
    }
