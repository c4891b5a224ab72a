-- A refused frame leaves any bytes as they were: nothing is taken in, and the list is laid back where it was read.
-- Assumes nothing.
use mathlib.Core.Path.{◌≡◌, refl, ap, ◌∙◌}
use Prim.Native.Nat.{ℕ, ◌*◌, ◌≤◌}
use native.Mathlib.Omega.{arith}
use mathlib.Core.List.{List}
use lib.ListN.{length}
use Rattle.std.proofs.Common.{Result, Ok, Err}
use Rattle.octets.proofs.Lay.{lay-part}
use Rattle.rows.specs.Rows.{list_row_bytes}
use Rattle.laying.specs.declared.Refusal as laid
use Rattle.laying.specs.Laying.{frame_entry, list_after}
use Rattle.laying.specs.Laying as laying
use Rattle.store.specs.declared.Head.{Head}
use Rattle.store.specs.declared.Refusal as header
use Rattle.store.specs.Store.{store_bytes, list_at, list_room, list_in, with_list}
use Rattle.store.specs.Header.{header_of}
use Rattle.offering.specs.Offering.{number_of, laid_in, laid_store, of_laying, answer_by, offer_answer, taken_after, after_by, offered_store}
use Rattle.store.proofs.Sizes.{sizes}
use Rattle.store.proofs.Parts.{list_in_lem}
use Rattle.store.proofs.Checked.{good_means}

-- what a refusal leaves of a list, and of a store
pub stays : (a : Result Unit laid.Refusal) → (laying.number_of a ≡ 0 → ⊥) → (at : ℕ) (entry list store : List ℕ) → (list_after a at entry list ≡ list) × (taken_after a store ≡ store)
unfolding list_after taken_after laying.number_of
stays (Ok done) z at entry list store = absurd (z refl)
stays (Err e) z at entry list store = (refl, refl)

list_back : (store : List ℕ) → store_bytes ≤ length store → with_list (list_in store) store ≡ store
unfolding with_list
list_back store long = rw (list_in_lem store long) (lay-part list_at list_room store (omega (arith, sizes)))

-- an offer tells laying's number
pub laying-number : (a : Result Unit laid.Refusal) → number_of (of_laying a) ≡ laying.number_of a
unfolding of_laying number_of laying.number_of
laying-number (Ok done) = refl
laying-number (Err refusal) = refl

-- "a refused frame leaves the store unchanged"
pub refused_offer : (frame store : List ℕ) → (number_of (offer_answer frame store) ≡ 0 → ⊥) → offered_store frame store ≡ store
unfolding offer_answer offered_store answer_by after_by number_of laid_store
refused_offer frame store z = go (header_of store) refl z
  where
    go : (h : Result Head header.Refusal) → header_of store ≡ h → (number_of (answer_by h frame store) ≡ 0 → ⊥) → after_by h frame store ≡ store
    go (Err e) is z = refl
    go (Ok h) is z =
        let same = stays (laid_in frame h store) (λ e. z (laying-number (laid_in frame h store) ∙ e)) (list_row_bytes h.l * h.rows) (frame_entry frame) (list_in store) in
        (same (laid_store frame h store)).1 ∙ ap (λ (list : List ℕ). with_list list store) (same store).0 ∙ list_back store (good_means store h is).long
