-- What a line gives and leaves, after the lines before it. Document 01, "The page reader program".
use Rattle.std.specs.Prelude.{ℕ, ◌+◌, ◌*◌, cond, List, Option, Some, unwrap_or, Result, Ok, Err, eqb}
use Rattle.rows.specs.Rows.{list_row_bytes}
use Rattle.frame.specs.declared.Frame.{Frame}
use Rattle.frame.specs.Reading.{reading}
use Rattle.frame.specs.Numbers.{frame_numbers, number_of, place_of}
use Rattle.laying.specs.Laying as laying
use Rattle.lines.specs.declared.Page.{Page}
use Rattle.lines.specs.declared.Sheet.{Sheet}
use Rattle.lines.specs.declared.Refused.{Refused}
use Rattle.lines.specs.declared.Taken.{Taken}
use Rattle.text.specs.Hex.{pairs, bad}

-- The line's result with the sheet after it, and the list at exit.
pub record LineTaken : Type 0 where
  pub taken : Taken
  pub list : List ℕ

-- A line's result: a row, or document 01's number and place.
abbrev pub Line : Type 0
Line = Result (Unit {0}) Refused

abbrev pub refusal : ℕ → ℕ → Line
refusal number place = Err (record { number = number; place = place })

abbrev pub taken_as : Line → Sheet → List ℕ → LineTaken
taken_as line sheet list = record { taken = record { line = line; sheet = sheet }; list = list }

-- The result of a number and a place: number 0 is a row.
unfoldable pub result : ℕ → ℕ → Line
result number place = cond (eqb number 0) (Ok tt) (refusal number place)

-- ---- a good frame

-- "The first good frame sets the expected page number, n and L."
unfoldable pub expecting : Option Page → Page → Page
expecting expected good = unwrap_or expected good

unfoldable pub page_of_frame : Frame → Page
page_of_frame good = record { number = (frame_numbers good).page; n = (frame_numbers good).n; l = (frame_numbers good).l }

-- A row laid is one row more.
unfoldable pub rows_after : Line → ℕ → ℕ
rows_after (Ok row) rows = rows + 1
rows_after (Err e) rows = rows

-- Its row goes behind the rows so far: "A good frame of another page is 16 at 0; a 513th row is 2 at 0."
unfoldable pub lay_on : Page → List ℕ → ℕ → List ℕ → LineTaken
lay_on page frame rows list =
    let answer = laying.laid frame page.number page.n page.l rows list in
    let line = result (laying.number_of answer) (laying.place_of answer) in
    taken_as line (record { expected = Some page; rows = rows_after line rows })
    (laying.list_after answer (list_row_bytes page.l * rows) (laying.frame_entry frame) list)

-- ---- a line

-- A frame that is refused changes nothing.
unfoldable pub take_frame : List ℕ → Sheet → List ℕ → LineTaken
take_frame frame sheet list =
    let found = reading frame in
    cond (eqb (number_of found) 0) (lay_on (expecting sheet.expected (page_of_frame found)) frame sheet.rows list)
    (taken_as (refusal (number_of found) (place_of found)) sheet list)

-- "A line of odd length, over 256 characters, or with another character .. is 17 at 0." "Order on a line: 17, frame refusals, 16, 2."
unfoldable pub take_line : List ℕ → Sheet → List ℕ → LineTaken
take_line line sheet list = cond (bad line) (taken_as (refusal 17 0) sheet list) (take_frame (pairs line) sheet list)
