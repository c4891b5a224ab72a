-- What a line gives, case by case, as `take` finds it.
-- Assumes nothing.
use mathlib.Core.Path.{◌≡◌, refl}
use Prim.Native.Nat.{ℕ, ◌+◌, ◌*◌, ◌≤◌}
use native.Mathlib.Omega.{arith}
use mathlib.Core.Bool.{Bool, true, false, cond, not}
use mathlib.Core.List.{List}
use lib.Dec.{eqb, ltb}
use lib.ListN.{length}
use borrow.Author.Tests.{eqb-true, eqb-false, ltb-false}
use Rattle.rows.specs.Rows.{shape, list_row_bytes}
use Rattle.frame.specs.declared.Frame.{Frame}
use Rattle.frame.specs.declared.Frame.TheVariants as frames
use Rattle.laying.specs.declared.Refusal.{Refusal}
use Rattle.laying.specs.declared.Refusal.TheVariants as refused
use Rattle.frame.specs.Reading.{reading}
use Rattle.frame.specs.Numbers.{frame_numbers, number_of, is_good, place_of}
use Rattle.laying.specs.Laying as laying
use Rattle.lines.specs.declared.Page.{Page}
use Rattle.lines.specs.declared.Sheet.{Sheet}
use Rattle.std.proofs.Common.{Result, Ok, Err, is_ok}
use Rattle.text.specs.Hex.{pairs, bad}
use Rattle.lines.specs.Taking.{Line, refusal, taken_as, result, expecting, page_of_frame, lay_on, take_frame, take_line}

-- ---- a result

pub result_row : (number place : ℕ) → is_ok (result number place) ≡ true → number ≡ 0
unfolding result
result_row number place e = go (eqb number 0) refl e
  where
    go : (b : Bool) → eqb number 0 ≡ b → is_ok (cond b (Ok tt) (refusal number place)) ≡ true → number ≡ 0
    go true f e = eqb-true number 0 f
    go false f e = absurd (cc)

pub result-refused : (number place : ℕ) → eqb number 0 ≡ false → result number place ≡ refusal number place
unfolding result
result-refused number place e = rw e

-- ---- a good frame

module _ (page : Page) (frame : List ℕ) (rows : ℕ) (list : List ℕ) where
  abbrev answered : Result Unit Refusal
  answered = laying.laid frame page.number page.n page.l rows list

  -- a row laid is one of the first 512
  pub laid-within : laying.number_of answered ≡ 0 → rows ≤ 511
  unfolding laying.laid laying.placing laying.number_of
  laid-within e =
      go (shape page.n page.l) (is_good found) refl (laying.same_page found page.number page.n page.l) (ltb 511 rows) refl
      (ltb (length list) (list_row_bytes page.l * rows + list_row_bytes page.l)) e
    where
      found : Frame
      found = reading frame

      go : (s g : Bool) → is_good found ≡ g → (p t : Bool) → ltb 511 rows ≡ t → (r : Bool)
          → laying.number_of (cond (not s) (Err refused.Shape) (cond (not g) (Err (refused.Frame found)) (cond (not p) (Err refused.OtherPage) (cond t (Err refused.Full) (cond r (Err refused.Room) (Ok tt)))))) ≡ 0
          → rows ≤ 511
      go false g i p t j r e = absurd (omega arith)
      go true false i p t j r e = absurd (eqb-false (number_of found) 0 i e)
      go true true i false t j r e = absurd (omega arith)
      go true true i true true j r e = absurd (omega arith)
      go true true i true false j r e = ltb-false 511 rows j

-- ---- a frame

module _ (frame : List ℕ) (sheet : Sheet) (list : List ℕ) where
  pub frame_refused : (found : Frame) → found ≡ reading frame → is_good found ≡ false
      → (line : Line) → line ≡ result (number_of found) (place_of found) → taken_as line sheet list ≡ take_frame frame sheet list
  unfolding take_frame result
  frame_refused found f e line l = rw (l, ← f, e)

  pub frame-good : (page n l seed : ℕ) → reading frame ≡ frames.Good page n l seed
      → (expected : Page) → expected ≡ expecting sheet.expected (record { number = page; n = n; l = l })
      → lay_on expected frame sheet.rows list ≡ take_frame frame sheet list
  unfolding take_frame frame_numbers page_of_frame
  frame-good page n l seed e expected is = rw (e, is)

-- ---- a line

module _ (line : List ℕ) (sheet : Sheet) (list : List ℕ) where
  pub line_bad : bad line ≡ true → taken_as (refusal 17 0) sheet list ≡ take_line line sheet list
  unfolding take_line
  line_bad e = rw e

  pub line_good : bad line ≡ false → take_frame (pairs line) sheet list ≡ take_line line sheet list
  unfolding take_line
  line_good e = rw e
