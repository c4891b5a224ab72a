-- An offer keeps a store whole: a refused frame changes nothing, and of a row that was laid either the seed is noted and no more, where it repeats an
-- earlier one, or it is taken in; either way the working is current again and the header counts one row more.
-- Assumes nothing.
use mathlib.Core.Path.{◌≡◌, refl, sym, ap, ◌∙◌}
use Prim.Native.Nat.{ℕ, ◌+◌, ◌*◌, ◌^◌, ◌≤◌, ◌<◌}
use native.Mathlib.Nat.{mul-suc, mul-le-mul_left}
use native.Mathlib.Numerals.{add-one}
use native.Mathlib.Omega.{arith}
use mathlib.Core.Bool.{Bool, true, false, cond, ◌&&◌}
use mathlib.Core.List.{List, [], ◌∷◌, map}
use lib.Dec.{eqb}
use lib.ListN.{length}
use borrow.Author.Tests.{eqb-true, eqb-false, ne_eqb}
use Rattle.std.proofs.Common.{Result, Ok, Err}
use Rattle.space.specs.Lists.{Below}
use Rattle.space.proofs.Lists.{map-append, below_append}
use Rattle.octets.specs.Octets.{number, lay}
use Rattle.octets.proofs.Lay.{length-lay}
use Rattle.words.specs.Words.{four_of}
use Rattle.places.specs.Places.{most_rows}
use Rattle.rows.specs.Rows.{list_row_bytes, vector, constraint}
use Rattle.lists.specs.Lists.{entry_at, row_at}
use Rattle.repeats.specs.Repeats.{repeated}
use Rattle.state.specs.Layout.{state_bytes}
use Rattle.noting.specs.Noting.{noted_in, noted_state}
use Rattle.noting.proofs.Lengths.{noted-length}
use Rattle.absorb.specs.Absorbing.{Absorption}
use Rattle.echelon.specs.Eliminating.{rank_after}
use Rattle.frame.specs.declared.Frame.TheVariants as frames
use Rattle.frame.specs.Reading.{reading}
use Rattle.laying.specs.declared.Refusal as laid-refusal
use Rattle.laying.specs.declared.Refusal.TheVariants as laids
use Rattle.laying.specs.Laying.{placing, laid, frame_entry, list_after}
use Rattle.laying.specs.Laying as laying
use Rattle.laying.proofs.Laying.{laid-placing, laid_zero, placing_full, placing-row}
use Rattle.crossing.specs.Held.{Held}
use Rattle.crossing.specs.Held as crossing
use Rattle.store.specs.declared.Head.{Head}
use Rattle.store.specs.Store.{store_bytes, list_room, taken_in, rank_in, list_in, working_in, with_list, with_working}
use Rattle.store.specs.Header.{head_in, header_of}
use Rattle.noticing.specs.Noticing.{seed_in, is_repeat, noticed}
use Rattle.newest.specs.Newest.{counted_in, admission, admitted, taken_by, newest_taken}
use Rattle.offering.specs.declared.Refusal.TheVariants.{Laying}
use Rattle.offering.specs.Offering.{number_of, laid_in, laid_store, of_laying, answer_by, offer_answer, taken_after, after_by, offered_store}
use Rattle.current.specs.Current.{first_entries}
use Rattle.current.proofs.Next.{current_repeat, current-taken, next-entries}
use Rattle.whole.specs.Whole.{Whole}
use Rattle.store.proofs.Parts.{is_store_lem}
use Rattle.store.proofs.Checked.{header_good}
use Rattle.store.proofs.Back.{length-list, list-long, list-list, list-working, working-long, working-working, working-list}
use Rattle.whole.proofs.Parts.{list-head, working-head}
use Rattle.whole.proofs.Accepted.{row-few, row_room, entry-long, entry_low, entry-inside}
use Rattle.whole.proofs.Refused.{stays, laying-number, refused_offer}
use Rattle.whole.proofs.Written.{written-whole}

-- ---- its header

module _ (page n l : ℕ) (held : Held) (store : List ℕ) (W : Whole page n l held store) where
  abbrev head : Head
  head = record { page = page; n = n; l = l; rows = held.rows; taken = taken_in store; rank = rank_in store }

  whole-head : head_in store ≡ head
  unfolding head_in
  whole-head = rw (W.page_is, W.n_is, W.l_is, W.rows_are)

  pub whole_header : header_of store ≡ Ok head
  whole_header = header_good store W.long head whole-head W.shaped W.current.many

  list-size : length held.list ≡ list_room
  list-size = ap length (sym W.list_is) ∙ length-list store W.long

  module _ (frame : List ℕ) where
    abbrev said : Result Unit laid-refusal.Refusal
    said = laid frame page n l held.rows held.list

    -- "an offer, with places as in laying"
    pub offer_answer_lem : offer_answer frame store ≡ of_laying said
    unfolding offer_answer answer_by laid_in
    offer_answer_lem = rw (whole_header, W.list_is)

    -- a good frame of the page is accepted while there are fewer than 512 rows; "then 2 at the 513th row"
    module _ (seed : ℕ) (good : reading frame ≡ frames.Good page n l seed) where
      placed : said ≡ placing l held.rows held.list
      placed = laid-placing frame page n l held.rows held.list W.shaped page n l seed good refl refl refl

      pub offer_accepted : held.rows < most_rows → offer_answer frame store ≡ Ok tt
      unfolding of_laying
      offer_accepted few =
          offer_answer_lem ∙ ap of_laying (placed ∙ placing-row l held.rows held.list (omega arith)
          (omega (arith, mul-le-mul_left (list_row_bytes l) few, mul-suc (list_row_bytes l) held.rows, W.current.list_room)))

      pub offer_full : held.rows ≡ most_rows → offer_answer frame store ≡ Err (Laying laids.Full)
      unfolding of_laying
      offer_full full = offer_answer_lem ∙ ap of_laying (placed ∙ placing_full l held.rows held.list (omega arith))

    -- ---- a row that is laid

    module _ (b : Below 256 frame) (row : said ≡ Ok tt) where
      abbrev entry : List ℕ
      entry = frame_entry frame

      abbrev list : List ℕ
      list = lay (list_row_bytes l * held.rows) entry held.list

      few : held.rows < 512
      few = row-few frame page n l held.rows held.list row

      long-entry : length entry ≡ list_row_bytes l
      long-entry = entry-long frame page n l held.rows held.list row

      low_entry : Below 256 entry
      low_entry = entry_low frame page n l held.rows held.list row b

      size : length list ≡ list_room
      size = length-lay (list_row_bytes l * held.rows) entry held.list (omega (arith, long-entry, row_room frame page n l held.rows held.list row)) ∙ list-size

      abbrev with_row : List ℕ
      with_row = with_list list store

      long : store_bytes ≤ length with_row
      long = omega (arith, W.long, list-long list store size W.long)

      head_is : head_in with_row ≡ head
      head_is = list-head list store size W.long ∙ whole-head

      abbrev working : List ℕ
      working = working_in store

      abbrev seed : ℕ
      seed = four_of (entry_at l held.rows list)

      abbrev noted : List ℕ
      noted = noted_state seed working

      noted-size : length noted ≡ state_bytes
      noted-size = noted-length seed working ∙ W.current.size

      abbrev seen : List ℕ
      seen = with_working noted with_row

      seen-long : store_bytes ≤ length seen
      seen-long = omega (arith, long, working-long noted with_row noted-size long)

      abbrev repeats : Bool
      repeats = noted_in seed working && repeated l held.rows list

      repeat_is : is_repeat l held.rows with_row ≡ repeats
      unfolding is_repeat seed_in
      repeat_is = rw (is_store_lem with_row long, list-list list store size W.long, list-working list store size W.long)

      seen_is : noticed l held.rows with_row ≡ seen
      unfolding noticed seed_in
      seen_is = rw (is_store_lem with_row long, list-list list store size W.long, list-working list store size W.long)

      newest_is : newest_taken with_row ≡ cond repeats (counted_in (held.rows + 1) (taken_in store) (rank_in store) seen) (admitted head seen)
      unfolding newest_taken taken_by
      newest_is = rw (header_good with_row long head head_is W.shaped W.current.many) (rw (repeat_is, seen_is))

      inside : Below (2 ^ n) (map (constraint l) (map (vector l) (first_entries l (held.rows + 1) list)))
      inside =
          rw (next-entries l held.list held.rows (taken_in store) (rank_in store) working entry W.current few long-entry low_entry)
          (rw (map-append (vector l) (first_entries l held.rows held.list) (number entry ∷ []))
          (rw (map-append (constraint l) (map (vector l) (first_entries l held.rows held.list)) (vector l (number entry) ∷ []))
          (below_append (2 ^ n) (map (constraint l) (map (vector l) (first_entries l held.rows held.list))) (constraint l (vector l (number entry)) ∷ []) W.inside
          (entry-inside frame page n l held.rows held.list row b, tt))))

      abbrev a : Absorption
      a = admission (row_at l held.rows list) held.rows (taken_in store) (rank_in store) noted

      taken-whole : (c : Bool) → repeats ≡ c
          → Whole page n l (record { list = list; rows = held.rows + 1 }) (cond c (counted_in (held.rows + 1) (taken_in store) (rank_in store) seen) (admitted head seen))
      unfolding admitted
      taken-whole true e =
          written-whole page n l W.shaped list (held.rows + 1) (taken_in store) (rank_in store) noted
          (current_repeat l held.list held.rows (taken_in store) (rank_in store) working entry W.current few long-entry low_entry e)
          inside with_row long head head_is refl refl refl (list-list list store size W.long)
      taken-whole false e =
          rw (seen-list, working-working noted with_row noted-size long)
          (written-whole page n l W.shaped list (held.rows + 1) (taken_in store + 1) (rank_after a.answer (rank_in store)) a.state
          (current-taken l held.list held.rows (taken_in store) (rank_in store) working entry W.current few long-entry low_entry e)
          inside seen seen-long head (working-head noted with_row noted-size long ∙ head_is) refl refl refl seen-list)
        where
          seen-list : list_in seen ≡ list
          seen-list = working-list noted with_row noted-size long ∙ list-list list store size W.long

      row-whole : Whole page n l (crossing.offered page n l frame held) (offered_store frame store)
      unfolding crossing.offered offered_store after_by laid_store laid_in list_after taken_after laying.number_of
      row-whole = rw (whole_header, W.list_is, row) (rw (newest_is, ← add-one held.rows) (taken-whole repeats refl))

    -- ---- a refused frame

    module _ (z : laying.number_of said ≡ 0 → ⊥) where
      nothing-held : crossing.offered page n l frame held ≡ held
      unfolding crossing.offered
      nothing-held =
          rw (ne_eqb (laying.number_of said) 0 z, (stays said z (list_row_bytes l * held.rows) (frame_entry frame) held.list store).0)

      refused-whole : Whole page n l (crossing.offered page n l frame held) (offered_store frame store)
      refused-whole = rw (nothing-held, refused_offer frame store (λ e. z (sym (ap number_of offer_answer_lem ∙ laying-number said) ∙ e))) W

    -- "true after each offered frame"
    pub offered-whole : Below 256 frame → Whole page n l (crossing.offered page n l frame held) (offered_store frame store)
    offered-whole b = go (eqb (laying.number_of said) 0) refl
      where
        go : (c : Bool) → eqb (laying.number_of said) 0 ≡ c → Whole page n l (crossing.offered page n l frame held) (offered_store frame store)
        go true e = row-whole b (laid_zero frame page n l held.rows held.list (eqb-true (laying.number_of said) 0 e))
        go false e = refused-whole (eqb-false (laying.number_of said) 0 e)
