-- The two parts of a store lent and come back; and what the store shows once one of them is written anew. They lie apart, so neither write is seen in the
-- other.
-- Assumes nothing.
use mathlib.Core.Path.{◌≡◌, sym, ap, ap₂, ◌∙◌}
use mathlib.Core.List.{List, ◌++◌}
use Prim.Native.Nat.{ℕ, ◌+◌, ◌-◌, ◌≤◌}
use native.Mathlib.Omega.{arith}
use lib.ListN.{length, take, drop}
use lib.Seq.{take_all, length-take-le}
use borrow.Rule.Slice.PartMut.{put_mid}
use Rattle.std.proofs.lemmas.List.{drop-take}
use Rattle.octets.specs.Octets.{lay}
use Rattle.octets.proofs.Lay.{length-lay, part-lay, part-before, part-after}
use Rattle.octets.proofs.Parts.{back}
use Rattle.octets.proofs.Views.{length_part}
use Rattle.state.specs.Layout.{state_bytes}
use Rattle.store.specs.Store.{store_bytes, list_at, working_at, list_room, list_in, working_in, with_list, with_working}
use Rattle.store.proofs.Sizes.{sizes}
use Rattle.store.proofs.Parts.{list_in_lem, working_in_lem}

module _ (store : List ℕ) (long : store_bytes ≤ length store) where
  pub length-list : length (list_in store) ≡ list_room
  length-list = ap length (list_in_lem store long) ∙ length_part list_room list_at store (omega (arith, sizes))

  pub length-working : length (working_in store) ≡ state_bytes
  length-working = ap length (working_in_lem store long) ∙ length_part state_bytes working_at store (omega (arith, sizes))

  -- ---- lent: what the checker says, `store[at..at + k]`

  pub list-lent : (at k : ℕ) → at ≡ list_at → k ≡ list_room → take k (drop at store) ≡ list_in store
  list-lent at k e f = ap₂ (λ (i j : ℕ). take j (drop i store)) e f ∙ sym (list_in_lem store long)

  pub working-lent : (at k : ℕ) → at ≡ working_at → k ≡ state_bytes → take k (drop at store) ≡ working_in store
  working-lent at k e f = ap₂ (λ (i j : ℕ). take j (drop i store)) e f ∙ sym (working_in_lem store long)

  -- ---- and back

  pub list_back : (at k : ℕ) (new : List ℕ) → at ≡ list_at → length new ≡ k → put_mid at k store new ≡ with_list new store
  unfolding with_list
  list_back at k new e size = back at k new store size ∙ ap (λ (i : ℕ). lay i new store) e

  pub working-back : (at k : ℕ) (new : List ℕ) → at ≡ working_at → length new ≡ k → put_mid at k store new ≡ with_working new store
  unfolding with_working
  working-back at k new e size = back at k new store size ∙ ap (λ (i : ℕ). lay i new store) e

  -- ---- cut at the working: the list lies in front of the cut, and the working begins there

  pub list_cut : (front : List ℕ) → front ≡ take working_at store → take (length front - list_at) (drop list_at front) ≡ list_in store
  list_cut front e =
      let to : working_at ≡ list_at + list_room = omega (arith, sizes) in
      let cut : drop list_at front ≡ list_in store = ap (drop list_at) (e ∙ ap (λ (k : ℕ). take k store) to) ∙ drop-take list_at list_room store ∙ sym (list_in_lem store long) in
      let size : length front ≡ working_at = ap length e ∙ length-take-le working_at store (omega (arith, sizes)) in
      ap (take (length front - list_at)) cut ∙ take_all (length front - list_at) (list_in store) (omega (arith, sizes, length-list))

  pub working_cut : (front back new : List ℕ) → front ≡ take working_at store → back ≡ drop working_at store → length new ≡ state_bytes → front ++ (new ++ drop state_bytes back) ≡ with_working new store
  unfolding with_working lay
  working_cut front back new f b size = rw (f, b, size)

-- ---- the list written anew

module _ (list store : List ℕ) (size : length list ≡ list_room) (long : store_bytes ≤ length store) where
  pub list-long : length (with_list list store) ≡ length store
  unfolding with_list
  list-long = length-lay list_at list store (omega (arith, sizes))

  still_long : store_bytes ≤ length (with_list list store)
  still_long = omega (arith, list-long)

  pub list-list : list_in (with_list list store) ≡ list
  unfolding with_list
  list-list = list_in_lem (with_list list store) still_long ∙ part-lay list_at list_room list store size (omega (arith, sizes))

  pub list-working : working_in (with_list list store) ≡ working_in store
  unfolding with_list
  list-working =
      working_in_lem (with_list list store) still_long ∙ part-after working_at state_bytes list_at list store (omega (arith, sizes)) (omega (arith, sizes)) ∙ sym (working_in_lem store long)

-- ---- the working written anew

module _ (working store : List ℕ) (size : length working ≡ state_bytes) (long : store_bytes ≤ length store) where
  pub working-long : length (with_working working store) ≡ length store
  unfolding with_working
  working-long = length-lay working_at working store (omega (arith, sizes))

  kept-long : store_bytes ≤ length (with_working working store)
  kept-long = omega (arith, working-long)

  pub working-working : working_in (with_working working store) ≡ working
  unfolding with_working
  working-working = working_in_lem (with_working working store) kept-long ∙ part-lay working_at state_bytes working store size (omega (arith, sizes))

  pub working-list : list_in (with_working working store) ≡ list_in store
  unfolding with_working
  working-list =
      list_in_lem (with_working working store) kept-long ∙ part-before list_at list_room working_at working store (omega (arith, sizes)) (omega (arith, sizes)) ∙ sym (list_in_lem store long)
