-- The list that the page reader reads is the list of frames laid one after the other: each line does to the list what its frame does, once the
-- page is expected, and the first good frame sets it. Assumes nothing.
use mathlib.Core.Path.{◌≡◌, refl, sym, ap, ◌∙◌}
use Prim.Native.Nat.{ℕ, suc, ◌*◌}
use mathlib.Core.Bool.{Bool, true, false, cond, ◌&&◌, true≢false}
use mathlib.Core.List.{List, [], ◌∷◌}
use native.Mathlib.Omega.{arith}
use lib.Dec.{eqb}
use borrow.Author.Tests.{eqb-true}
use Rattle.space.proofs.Both.{both}
use Rattle.rows.specs.Rows.{list_row_bytes}
use Rattle.frame.specs.Reading.{reading}
use Rattle.frame.specs.Numbers.{frame_numbers, is_good}
use Rattle.frame.specs.Numbers.{number_of as number_of-of, place_of as place_of-of}
use Rattle.laying.specs.Laying.{same_page, laid, number_of, place_of, list_after, frame_entry}
use Rattle.crossing.specs.Held.{Held, blank, offered, offered_all}
use Rattle.crossing.specs.Caught.{of_page}
use Rattle.crossing.proofs.Refused.{refused-offered}
use Rattle.text.specs.Hex.{pairs, bad}
use Rattle.lines.specs.declared.Page.{Page}
use Rattle.std.proofs.Common.{None, Some, Ok}
use Rattle.lines.specs.Taking.{refusal, taken_as, result, expecting, page_of_frame, rows_after, lay_on, take_frame, take_line}
use Rattle.from_lines.specs.Lines.{Left, started, left_by, taken_over, taken_all, frames_in, first_of_page}

module _ (number n l : ℕ) where
  abbrev page : Page
  page = record { number = number; n = n; l = l }

  -- what lines leave, once the page is expected
  abbrev pub expects : Held → Left
  expects h = record { expected = Some page; held = h }

  unread : (frame : List ℕ) → is_good (reading frame) ≡ false → (h : Held) → offered number n l frame h ≡ h
  unread frame e h = refused-offered number n l frame (unfold of_page in rw e) h

  -- ---- one line

  rows_same : (k place rows : ℕ) → rows_after (result k place) rows ≡ cond (eqb k 0) (suc rows) rows
  unfolding rows_after result
  rows_same k place rows = go (eqb k 0)
    where
      go : (b : Bool) → rows_after (cond b (Ok tt) (refusal k place)) rows ≡ cond b (suc rows) rows
      go true = omega arith
      go false = refl

  -- a good frame is laid on the page that is expected
  laid_on : (frame : List ℕ) (h : Held) → left_by (lay_on page frame h.rows h.list) ≡ expects (offered number n l frame h)
  unfolding lay_on offered
  laid_on frame h =
      let answer = laid frame number n l h.rows h.list in
      ap (λ (rows : ℕ). expects (record { list = list_after answer (list_row_bytes l * h.rows) (frame_entry frame) h.list; rows = rows })) (rows_same (number_of answer) (place_of answer) h.rows)

  frame-over : (frame : List ℕ) (h : Held) → left_by (take_frame frame (record { expected = Some page; rows = h.rows }) h.list) ≡ expects (offered number n l frame h)
  unfolding take_frame expecting
  frame-over frame h = go (is_good (reading frame)) refl
    where
      go : (b : Bool) → is_good (reading frame) ≡ b
          → left_by (cond b (lay_on page frame h.rows h.list) (taken_as (refusal (number_of-of (reading frame)) (place_of-of (reading frame))) (record { expected = Some page; rows = h.rows }) h.list))
          ≡ expects (offered number n l frame h)
      go true e = laid_on frame h
      go false e = ap expects (sym (unread frame e h))

  -- ---- all of them, once the page is expected

  lines_over : (lines : List (List ℕ)) (h : Held) → taken_all lines (expects h) ≡ expects (offered_all number n l (frames_in lines) h)
  unfolding taken_all taken_over take_line frames_in offered_all
  lines_over [] h = refl
  lines_over (line ∷ lines) h = go (bad line) (lines_over lines)
    where
      go : (b : Bool) → ((h : Held) → taken_all lines (expects h) ≡ expects (offered_all number n l (frames_in lines) h))
          → taken_all lines (left_by (cond b (taken_as (refusal 17 0) (record { expected = Some page; rows = h.rows }) h.list) (take_frame (pairs line) (record { expected = Some page; rows = h.rows }) h.list)))
          ≡ expects (offered_all number n l (cond b (frames_in lines) (pairs line ∷ frames_in lines)) h)
      go true ih = ih h
      go false ih = ap (taken_all lines) (frame-over (pairs line) h) ∙ ih (offered number n l (pairs line) h)

  -- ---- from the start

  -- a good frame of the page sets it
  first-over : (frame list : List ℕ) → is_good (reading frame) ≡ true → same_page (reading frame) number n l ≡ true
      → left_by (take_frame frame (record { expected = None; rows = 0 }) list) ≡ expects (offered number n l frame (blank list))
  unfolding take_frame expecting
  first-over frame list g same = rw (g, its) (laid_on frame (blank list))
    where
      parts : (eqb (frame_numbers (reading frame)).page number ≡ true) × ((eqb (frame_numbers (reading frame)).n n && eqb (frame_numbers (reading frame)).l l) ≡ true)
      parts = unfold same_page in both _ _ same

      shaped : (eqb (frame_numbers (reading frame)).n n ≡ true) × (eqb (frame_numbers (reading frame)).l l ≡ true)
      shaped = both _ _ parts.1

      its : page_of_frame (reading frame) ≡ page
      its =
          unfold page_of_frame in λ i. record {
            number = eqb-true (frame_numbers (reading frame)).page number parts.0 i;
            n = eqb-true (frame_numbers (reading frame)).n n shaped.0 i;
            l = eqb-true (frame_numbers (reading frame)).l l shaped.1 i;
          }

  unread_first : (frame list : List ℕ) → is_good (reading frame) ≡ false → left_by (take_frame frame (record { expected = None; rows = 0 }) list) ≡ started list
  unfolding take_frame
  unread_first frame list e = rw e

  -- one frame, and then lines of which the same holds
  module _ (lines : List (List ℕ)) (list : List ℕ)
      (ih : first_of_page number n l (frames_in lines) ≡ true → taken_all lines (started list) ≡ expects (offered_all number n l (frames_in lines) (blank list))) where
    first_lays : (frame : List ℕ) → first_of_page number n l (frame ∷ frames_in lines) ≡ true
        → taken_all lines (left_by (take_frame frame (record { expected = None; rows = 0 }) list)) ≡ expects (offered_all number n l (frames_in lines) (offered number n l frame (blank list)))
    unfolding first_of_page
    first_lays frame first = go (is_good (reading frame)) refl first
      where
        go : (b : Bool) → is_good (reading frame) ≡ b → cond b (same_page (reading frame) number n l) (first_of_page number n l (frames_in lines)) ≡ true
            → taken_all lines (left_by (take_frame frame (record { expected = None; rows = 0 }) list)) ≡ expects (offered_all number n l (frames_in lines) (offered number n l frame (blank list)))
        go true e same = ap (taken_all lines) (first-over frame list e same) ∙ lines_over lines (offered number n l frame (blank list))
        go false e later = ap (taken_all lines) (unread_first frame list e) ∙ ih later ∙ ap (λ (h : Held). expects (offered_all number n l (frames_in lines) h)) (sym (unread frame e (blank list)))

  -- where the first good frame is of a page, lines leave that page, and the list of their frames laid one after the other
  pub lines_lay : (lines : List (List ℕ)) → first_of_page number n l (frames_in lines) ≡ true → (list : List ℕ)
      → taken_all lines (started list) ≡ record { expected = Some (record { number = number; n = n; l = l }); held = offered_all number n l (frames_in lines) (blank list) }
  unfolding taken_all taken_over take_line frames_in first_of_page offered_all
  lines_lay [] first list = absurd (true≢false (sym first))
  lines_lay (line ∷ lines) first list = go (bad line) first (λ later. lines_lay lines later list)
    where
      go : (b : Bool) → first_of_page number n l (cond b (frames_in lines) (pairs line ∷ frames_in lines)) ≡ true
          → (first_of_page number n l (frames_in lines) ≡ true → taken_all lines (started list) ≡ expects (offered_all number n l (frames_in lines) (blank list)))
          → taken_all lines (left_by (cond b (taken_as (refusal 17 0) (record { expected = None; rows = 0 }) list) (take_frame (pairs line) (record { expected = None; rows = 0 }) list)))
          ≡ expects (offered_all number n l (cond b (frames_in lines) (pairs line ∷ frames_in lines)) (blank list))
      go true later ih = ih later
      go false now ih = first_lays lines list ih (pairs line) now
