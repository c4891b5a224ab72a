-- What lines leave, from a blank sheet on: at most 512 rows, of a page in shape. So the list and the page have room.
-- Assumes nothing.
use mathlib.Core.Path.{◌≡◌, refl}
use Prim.Native.Nat.{ℕ, ◌*◌, ◌≤◌}
use native.Mathlib.Nat.{mul-le-mul}
use native.Mathlib.Omega.{arith}
use mathlib.Core.Bool.{Bool, true, false, cond}
use mathlib.Core.List.{List}
use Rattle.rows.specs.Rows.{shape, list_row_bytes}
use Rattle.rows.proofs.Shape.{shape_range}
use Rattle.frame.specs.declared.Frame.{Frame}
use Rattle.frame.specs.Reading.{reading, good}
use Rattle.frame.specs.Numbers.{frame_numbers, number_of, is_good, place_of}
use Rattle.laying.specs.Laying as laying
use Rattle.frame.proofs.Good.{good_fields, fields_good}
use Rattle.lines.specs.declared.Page.{Page}
use Rattle.lines.specs.declared.Sheet.{Sheet}
use Rattle.std.proofs.Common.{Option, None, Some, Ok, Err, is_ok}
use Rattle.text.specs.Hex.{pairs, bad}
use Rattle.lines.specs.Taking.{Line, refusal, taken_as, result, expecting, page_of_frame, rows_after, lay_on, take_frame, take_line}
use Rattle.lines.specs.Readable.{InShape, Readable}
use Rattle.lines.proofs.Takes.{result_row, laid-within}

-- ---- kept by every line

pub expecting-shaped : (expected : Option Page) (good : Page) → InShape expected → shape good.n good.l ≡ true
    → shape (expecting expected good).n (expecting expected good).l ≡ true
unfolding expecting
expecting-shaped None good e s = s
expecting-shaped (Some page) good e s = e

rows_few : (line : Line) (rows : ℕ) → rows ≤ 512 → (is_ok line ≡ true → rows ≤ 511) → rows_after line rows ≤ 512
unfolding rows_after
rows_few (Ok row) rows h k = let few : rows ≤ 511 = k refl in omega arith
rows_few (Err e) rows h k = h

lay-readable : (page : Page) (frame : List ℕ) (rows : ℕ) (list : List ℕ) → shape page.n page.l ≡ true → rows ≤ 512
    → Readable (lay_on page frame rows list).taken.sheet
unfolding lay_on
lay-readable page frame rows list s h =
    let answer = laying.laid frame page.number page.n page.l rows list in
    let number = laying.number_of answer in
    let place = laying.place_of answer in
    record { few = rows_few (result number place) rows h (λ e. laid-within page frame rows list (result_row number place e)); shaped = s }

pub good-page : (frame : List ℕ) → is_good (reading frame) ≡ true → shape (page_of_frame (reading frame)).n (page_of_frame (reading frame)).l ≡ true
unfolding page_of_frame frame_numbers good
good-page frame e =
    let fields = good_fields frame e in
    rw (fields_good frame fields) fields.shaped

frame-readable : (frame : List ℕ) (sheet : Sheet) (list : List ℕ) → Readable sheet → Readable (take_frame frame sheet list).taken.sheet
unfolding take_frame
frame-readable frame sheet list s = go (is_good found) refl
  where
    found : Frame
    found = reading frame

    expected : Page
    expected = expecting sheet.expected (page_of_frame found)

    go : (b : Bool) → is_good found ≡ b
        → Readable (cond b (lay_on expected frame sheet.rows list) (taken_as (refusal (number_of found) (place_of found)) sheet list)).taken.sheet
    go true e = lay-readable expected frame sheet.rows list (expecting-shaped sheet.expected (page_of_frame found) s.shaped (good-page frame e)) s.few
    go false e = s

pub take-readable : (line : List ℕ) (sheet : Sheet) (list : List ℕ) → Readable sheet → Readable (take_line line sheet list).taken.sheet
unfolding take_line
take-readable line sheet list s = go (bad line)
  where
    go : (b : Bool) → Readable (cond b (taken_as (refusal 17 0) sheet list) (take_frame (pairs line) sheet list)).taken.sheet
    go true = s
    go false = frame-readable (pairs line) sheet list s

-- ---- and what it gives

module _ (sheet : Sheet) (able : Readable sheet) (page : Page) (is : sheet.expected ≡ Some page) where
  page-shaped : shape page.n page.l ≡ true
  page-shaped = rw is at able.shaped

  -- the rows fit into a list of 512 rows of 44 bytes
  pub rows_fit : sheet.rows * list_row_bytes page.l ≤ 22528
  rows_fit =
      let narrow : list_row_bytes page.l ≤ 44 = omega (arith, (shape_range page.n page.l page-shaped).l_high) in
      mul-le-mul able.few narrow

  pub page-fits : page.n * page.l ≤ 2048
  page-fits =
      let range = shape_range page.n page.l page-shaped in
      mul-le-mul range.n_high range.l_high
