-- The results that lines have in a list of 22,528 bytes: a row, or 17, 11 to 15, 16 or 2. Laying's 1 and 3 never come up.
-- Assumes nothing.
use mathlib.Core.Path.{◌≡◌, refl}
use Prim.Native.Nat.{ℕ, ◌+◌, ◌*◌, ◌≤◌}
use native.Mathlib.Nat.{mul-le-mul, le_trans}
use native.Mathlib.Omega.{arith}
use mathlib.Core.Bool.{Bool, true, false, cond, not, ◌&&◌, ◌||◌, true≢false}
use mathlib.Core.List.{List}
use lib.Dec.{eqb, leb, ltb}
use lib.ListN.{length}
use borrow.Author.Tests.{le-ltb, ltb-false}
use Rattle.rows.specs.Rows.{shape, list_row_bytes}
use Rattle.rows.proofs.Shape.{shape_range}
use Rattle.frame.specs.declared.Frame.{Frame}
use Rattle.frame.specs.declared.Frame.TheVariants as frames
use Rattle.laying.specs.declared.Refusal.{Refusal}
use Rattle.laying.specs.declared.Refusal.TheVariants as refused
use Rattle.frame.specs.Reading.{reading}
use Rattle.frame.specs.Numbers.{frame_numbers, number_of, is_good, place_of}
use Rattle.laying.specs.Laying as laying
use Rattle.lines.specs.declared.Page.{Page}
use Rattle.lines.specs.declared.Sheet.{Sheet}
use Rattle.std.proofs.Common.{Result, Ok, Err}
use Rattle.text.specs.Hex.{pairs, bad}
use Rattle.lines.specs.Taking.{Line, refusal, taken_as, result, expecting, page_of_frame, lay_on, take_frame, take_line}
use Rattle.lines.specs.Readable.{Readable}
use Rattle.lines.proofs.Readable.{expecting-shaped, good-page}

unfoldable pub listed : Line → Bool
listed (Ok row) = true
listed (Err e) = eqb e.number 2 || (leb 11 e.number && leb e.number 17)

refusal_listed : (found : Frame) → is_good found ≡ false → listed (refusal (number_of found) (place_of found)) ≡ true
unfolding listed frame_numbers
refusal_listed (frames.Good page n l seed) e = absurd (true≢false e)
refusal_listed (frames.Short place) e = refl
refusal_listed (frames.WrongTag place) e = refl
refusal_listed (frames.WrongLength place) e = refl
refusal_listed frames.OutOfRange e = refl
refusal_listed (frames.Trailing place) e = refl

-- there is room for each of 512 rows
one_more_lem : (n l rows : ℕ) → shape n l ≡ true → rows ≤ 511 → list_row_bytes l * rows + list_row_bytes l ≤ 22528
one_more_lem n l rows s h =
    let narrow : list_row_bytes l ≤ 44 = omega (arith, (shape_range n l s).l_high) in
    omega (arith, mul-le-mul narrow h)

abbrev told : Result Unit Refusal → Line
told answer = result (laying.number_of answer) (laying.place_of answer)

module _ (list : List ℕ) (room : 22528 ≤ length list) where
  placing-listed : (n l rows : ℕ) → shape n l ≡ true → listed (told (laying.placing l rows list)) ≡ true
  unfolding laying.placing laying.number_of laying.place_of result listed
  placing-listed n l rows s = go (ltb 511 rows) refl
    where
      go : (t : Bool) → ltb 511 rows ≡ t
          → listed (told (cond t (Err refused.Full) (cond (ltb (length list) (list_row_bytes l * rows + list_row_bytes l)) (Err refused.Room) (Ok tt)))) ≡ true
      go true e = refl
      go false e = rw (le-ltb (length list) (list_row_bytes l * rows + list_row_bytes l) (le_trans (one_more_lem n l rows s (ltb-false 511 rows e)) room))

  lay-listed : (page : Page) (frame : List ℕ) (rows : ℕ) → shape page.n page.l ≡ true → is_good (reading frame) ≡ true
      → listed (lay_on page frame rows list).taken.line ≡ true
  unfolding lay_on laying.laid laying.number_of laying.place_of result listed
  lay-listed page frame rows s g = rw (s, g) (go (laying.same_page (reading frame) page.number page.n page.l))
    where
      go : (same : Bool) → listed (told (cond (not same) (Err refused.OtherPage) (laying.placing page.l rows list))) ≡ true
      go true = placing-listed page.n page.l rows s
      go false = refl

  frame-listed : (frame : List ℕ) (sheet : Sheet) → Readable sheet → listed (take_frame frame sheet list).taken.line ≡ true
  unfolding take_frame
  frame-listed frame sheet s = go (is_good (reading frame)) refl
    where
      expected : Page
      expected = expecting sheet.expected (page_of_frame (reading frame))

      go : (b : Bool) → is_good (reading frame) ≡ b
          → listed (cond b (lay_on expected frame sheet.rows list) (taken_as (refusal (number_of (reading frame)) (place_of (reading frame))) sheet list)).taken.line ≡ true
      go true e = lay-listed expected frame sheet.rows (expecting-shaped sheet.expected (page_of_frame (reading frame)) s.shaped (good-page frame e)) e
      go false e = refusal_listed (reading frame) e

  pub take-listed : (line : List ℕ) (sheet : Sheet) → Readable sheet → listed (take_line line sheet list).taken.line ≡ true
  unfolding take_line listed
  take-listed line sheet s = go (bad line)
    where
      go : (b : Bool) → listed (cond b (taken_as (refusal 17 0) sheet list) (take_frame (pairs line) sheet list)).taken.line ≡ true
      go true = refl
      go false = frame-listed (pairs line) sheet s
