-- Opening and offering on any bytes: which numbers they give, and that nothing behind the first 65,536 bytes changes. By the header, and by the lengths of
-- what each step writes.
-- Assumes nothing.
use mathlib.Core.Path.{◌≡◌, refl, sym, ◌∙◌}
use Prim.Native.Nat.{ℕ, ◌+◌, ◌*◌, ◌≤◌}
use native.Mathlib.Nat.{mul-le-mul_left}
use native.Mathlib.Omega.{arith}
use mathlib.Core.Bool.{Bool, true, false, cond, not, true≢false}
use mathlib.Core.List.{List, [], ◌∷◌}
use lib.Dec.{eqb, ltb}
use lib.ListN.{length}
use borrow.Author.Tests.{eqb-true, eqb-false, ltb-true, ltb-false, leb-true}
use Rattle.std.proofs.Common.{Result, Ok, Err}
use Rattle.octets.specs.Octets.{number, lay}
use Rattle.octets.proofs.Lay.{length-lay}
use Rattle.rows.specs.Rows.{shape, list_row_bytes}
use Rattle.rows.proofs.Shape.{shape_range}
use Rattle.lists.specs.Lists.{row_at}
use Rattle.reading.specs.Orders.{among}
use Rattle.state.specs.Layout.{state_bytes}
use Rattle.noting.specs.Noting.{ordered_state}
use Rattle.views.proofs.Ordered.{ordered-length}
use Rattle.noting.proofs.Lengths.{noted-length}
use Rattle.echelon.specs.Eliminating.{rank_after}
use Rattle.echelon.proofs.Staying.{absorbed_length}
use Rattle.frame.specs.declared.Frame.{Frame}
use Rattle.frame.specs.declared.Frame.TheVariants as frames
use Rattle.frame.specs.Reading.{reading}
use Rattle.frame.specs.Numbers as frame
use Rattle.frame.proofs.Tests.{either}
use Rattle.laying.specs.declared.Refusal.TheVariants as laids
use Rattle.laying.specs.Laying.{laid, placing, same_page, frame_entry, list_after}
use Rattle.laying.specs.Laying as laying
use Rattle.laying.proofs.Laying.{laid_zero, placing_full, placing-row}
use Rattle.store.specs.declared.Head.{Head}
use Rattle.store.specs.declared.Refusal as header
use Rattle.store.specs.declared.Refusal.TheVariants.{Short, OutOfRange}
use Rattle.store.specs.Store.{store_bytes, list_at, working_at, list_room, is_store, list_in, working_in, with_list, with_working}
use Rattle.store.specs.Header as store-header
use Rattle.store.specs.Header.{header_of}
use Rattle.noticing.specs.Noticing.{seed_in, is_repeat, noticed}
use Rattle.newest.specs.Newest.{counted_in, admission, admitted, taken_by, newest_taken}
use Rattle.opening.specs.Opening.{opened_store}
use Rattle.offering.specs.Offering.{number_of, laid_in, laid_store, answer_by, offer_answer, taken_after, after_by, offered_store}
use Rattle.store.proofs.Sizes.{sizes}
use Rattle.store.proofs.Parts.{is_store_lem}
use Rattle.store.proofs.Back.{length-list, length-working}
use Rattle.whole.proofs.Parts.{counted-long, counted-behind}
use Rattle.store.proofs.Checked.{good_means}
use Rattle.whole.proofs.Accepted.{row_room, entry-long}
use Rattle.whole.proofs.Opened.{open_shapeless, open_short, opened-long, opened-behind}
use Rattle.whole.proofs.Refused.{laying-number, refused_offer}
use Rattle.stored.specs.Others.{Within}
use Rattle.stored.proofs.Within.{same_within, then_within, lay-within}

-- ---- the numbers of an offer

abbrev late : List ℕ
late = 0 ∷ 2 ∷ 11 ∷ 12 ∷ 13 ∷ 14 ∷ 15 ∷ 16 ∷ []

abbrev any : List ℕ
any = 0 ∷ 2 ∷ 3 ∷ 10 ∷ 11 ∷ 12 ∷ 13 ∷ 14 ∷ 15 ∷ 16 ∷ []

abbrev IsLate : ℕ → Type 0
IsLate number = (among late number ≡ true) × (among any number ≡ true)

frame-late : (f : Frame) → frame.is_good f ≡ false → IsLate (frame.number_of f)
unfolding frame.frame_numbers among
frame-late (frames.Good page n l seed) g = absurd (true≢false g)
frame-late (frames.Short place) g = (refl, refl)
frame-late (frames.WrongTag place) g = (refl, refl)
frame-late (frames.WrongLength place) g = (refl, refl)
frame-late frames.OutOfRange g = (refl, refl)
frame-late (frames.Trailing place) g = (refl, refl)

laid-late : (bytes : List ℕ) (page n l rows : ℕ) (list : List ℕ) → shape n l ≡ true → (rows ≤ 511 → list_row_bytes l * rows + list_row_bytes l ≤ length list)
    → IsLate (laying.number_of (laid bytes page n l rows list))
unfolding laid laying.number_of among
laid-late bytes page n l rows list s room = rw s (go (frame.is_good (reading bytes)) refl (same_page (reading bytes) page n l) (ltb 511 rows) refl)
  where
    go : (g : Bool) → frame.is_good (reading bytes) ≡ g → (o full : Bool) → ltb 511 rows ≡ full
        → IsLate (laying.number_of (cond (not g) (Err (laids.Frame (reading bytes))) (cond (not o) (Err laids.OtherPage) (placing l rows list))))
    go false e o full f = frame-late (reading bytes) e
    go true e false full f = (refl, refl)
    go true e true true f = rw (placing_full l rows list (ltb-true 511 rows f)) (refl, refl)
    go true e true false f = rw (placing-row l rows list (ltb-false 511 rows f) (room (ltb-false 511 rows f))) (refl, refl)

module _ (bytes store : List ℕ) where
  -- the list of a store has room for 512 rows, so past the header check there is no 3
  good-late : (h : Head) → header_of store ≡ Ok h → IsLate (laying.number_of (laid_in bytes h store))
  unfolding laid_in
  good-late h e =
      let g = good_means store h e in
      let size : length (list_in store) ≡ list_room = length-list store g.long in
      laid-late bytes h.page h.n h.l h.rows (list_in store) g.shaped
      (λ few. omega (arith, size, sizes, (shape_range h.n h.l g.shaped).l_high, mul-le-mul_left (list_row_bytes h.l) few))

  -- "11 to 16, then 2 at the 513th row": or 0
  pub offered-late : (h : Head) → header_of store ≡ Ok h → among (0 ∷ 2 ∷ 11 ∷ 12 ∷ 13 ∷ 14 ∷ 15 ∷ 16 ∷ []) (number_of (offer_answer bytes store)) ≡ true
  unfolding offer_answer answer_by
  offered-late h e = rw (e, laying-number (laid_in bytes h store)) (good-late h e).0

  -- "3, 10 .., 11 to 16, then 2": or 0
  pub offer_numbers : among (0 ∷ 2 ∷ 3 ∷ 10 ∷ 11 ∷ 12 ∷ 13 ∷ 14 ∷ 15 ∷ 16 ∷ []) (number_of (offer_answer bytes store)) ≡ true
  unfolding offer_answer answer_by number_of store-header.number_of among
  offer_numbers = go (header_of store) refl
    where
      go : (h : Result Head header.Refusal) → header_of store ≡ h → among any (number_of (answer_by h bytes store)) ≡ true
      go (Err Short) e = refl
      go (Err OutOfRange) e = refl
      go (Ok h) e = rw (laying-number (laid_in bytes h store)) (good-late h e).1

-- ---- what stands behind a store stays

-- whatever it answers
pub opened-within : (page n l : ℕ) (store : List ℕ) → Within store_bytes store (opened_store page n l store)
unfolding is_store
opened-within page n l store = go (shape n l) refl (is_store store) refl
  where
    go : (a : Bool) → shape n l ≡ a → (b : Bool) → is_store store ≡ b → Within store_bytes store (opened_store page n l store)
    go true s true e =
        let long : store_bytes ≤ length store = leb-true store_bytes (length store) e in
        record { long = opened-long page n l store s long; behind = opened-behind page n l store s long }
    go true s false e = rw (open_short page n l store e) (same_within store_bytes store)
    go false s b e = rw (open_shapeless page n l store s) (same_within store_bytes store)

module _ (store : List ℕ) (long : store_bytes ≤ length store) where
  list-within : (list : List ℕ) → length list ≡ list_room → Within store_bytes store (with_list list store)
  unfolding with_list
  list-within list size = lay-within store_bytes list_at list store (omega (arith, sizes)) (omega (arith, sizes))

  working-within : (working : List ℕ) → length working ≡ state_bytes → Within store_bytes store (with_working working store)
  unfolding with_working
  working-within working size = lay-within store_bytes working_at working store (omega (arith, sizes)) (omega (arith, sizes))

  counted-within : (rows taken rank : ℕ) → Within store_bytes store (counted_in rows taken rank store)
  counted-within rows taken rank = record { long = counted-long rows taken rank store long; behind = counted-behind rows taken rank store long store_bytes (omega (arith, sizes)) }

-- ---- a row that is laid, and taken in

module _ (store : List ℕ) (long : store_bytes ≤ length store) where
  noticed-within : (l arrival : ℕ) → Within store_bytes store (noticed l arrival store)
  unfolding noticed
  noticed-within l arrival = rw (is_store_lem store long) (working-within store long _ (noted-length (seed_in l arrival store) (working_in store) ∙ length-working store long))

  noticed-long : (l arrival : ℕ) → store_bytes ≤ length (noticed l arrival store)
  noticed-long l arrival = omega (arith, (noticed-within l arrival).long)

  admitted-within : (h : Head) → Within store_bytes store (admitted h store)
  unfolding admitted admission
  admitted-within h =
      let row = row_at h.l h.rows (list_in store) in
      let a = admission row h.rows h.taken h.rank (working_in store) in
      let size : length a.state ≡ state_bytes =
      absorbed_length (length row) (number row) h.rows h.rank (ordered_state h.taken h.rows (working_in store)) ∙ ordered-length h.taken h.rows (working_in store) ∙ length-working store long in
      let v = working-within store long a.state size in
      then_within store_bytes store (with_working a.state store) _ v
      (counted-within (with_working a.state store) (omega (arith, v.long)) (h.rows + 1) (h.taken + 1) (rank_after a.answer h.rank))

pub newest_within : (store : List ℕ) → Within store_bytes store (newest_taken store)
unfolding newest_taken taken_by
newest_within store = go (header_of store) refl
  where
    go : (h : Result Head header.Refusal) → header_of store ≡ h → Within store_bytes store (taken_by h store)
    go (Err refusal) e = same_within store_bytes store
    go (Ok h) e =
        let long = (good_means store h e).long in
        let seen = noticed h.l h.rows store in
        let v = noticed-within store long h.l h.rows in
        let still : store_bytes ≤ length seen = omega (arith, long, v.long) in
        either (Within store_bytes store) (is_repeat h.l h.rows store) (counted_in (h.rows + 1) h.taken h.rank seen) (admitted h seen)
        (λ c. then_within store_bytes store seen _ v (counted-within seen still (h.rows + 1) h.taken h.rank)) (λ c. then_within store_bytes store seen _ v (admitted-within seen still h))

laid-within : (bytes store : List ℕ) (h : Head) → header_of store ≡ Ok h → laying.number_of (laid_in bytes h store) ≡ 0
    → Within store_bytes store (taken_after (laid_in bytes h store) (laid_store bytes h store))
unfolding laid_store laid_in taken_after list_after
laid-within bytes store h e z =
    let long = (good_means store h e).long in
    let row : laid bytes h.page h.n h.l h.rows (list_in store) ≡ Ok tt = laid_zero bytes h.page h.n h.l h.rows (list_in store) z in
    let at = list_row_bytes h.l * h.rows in
    let list = lay at (frame_entry bytes) (list_in store) in
    let size : length list ≡ list_room =
    length-lay at (frame_entry bytes) (list_in store)
    (omega (arith, row_room bytes h.page h.n h.l h.rows (list_in store) row, entry-long bytes h.page h.n h.l h.rows (list_in store) row))
    ∙ length-list store long in
    rw row (then_within store_bytes store (with_list list store) (newest_taken (with_list list store)) (list-within store long list size) (newest_within (with_list list store)))

-- whatever it answers
pub offered-within : (bytes store : List ℕ) → Within store_bytes store (offered_store bytes store)
unfolding offer_answer answer_by offered_store after_by number_of
offered-within bytes store = go (eqb (number_of (offer_answer bytes store)) 0) refl
  where
    accepted : (h : Result Head header.Refusal) → header_of store ≡ h → number_of (answer_by h bytes store) ≡ 0 → Within store_bytes store (after_by h bytes store)
    accepted (Err refusal) e z = same_within store_bytes store
    accepted (Ok h) e z = laid-within bytes store h e (sym (laying-number (laid_in bytes h store)) ∙ z)

    go : (b : Bool) → eqb (number_of (offer_answer bytes store)) 0 ≡ b → Within store_bytes store (offered_store bytes store)
    go true e = accepted (header_of store) refl (eqb-true (number_of (offer_answer bytes store)) 0 e)
    go false e = rw (refused_offer bytes store (eqb-false (number_of (offer_answer bytes store)) 0 e)) (same_within store_bytes store)
