-- Asking a store. Document 02, wish 5: "asking gives 3 for the store, 10, 3 for the rest, then 5 to 7"; "Asking lends what a reading does, list apart, and
-- leaves the store."
use Rattle.std.specs.Prelude.{ℕ, ◌*◌, ◌/◌, cond, Result, Ok, Err, List, length, take}
use Rattle.octets.specs.Octets.{over}
use Rattle.rows.specs.Rows.{list_row_bytes}
use Rattle.reading.specs.declared.Answer.{Answer}
use Rattle.reading.specs.declared.Answer.TheVariants as answer
use Rattle.reading.specs.declared.Numbers.{Numbers}
use Rattle.reading.specs.Answer.{numbered, answer_numbers}
use Rattle.reading.specs.Outcome.{Lent, Outcome, room_for, zeros}
use Rattle.state.specs.Layout.{uses_part, places_part}
use Rattle.marks.specs.Mark.{pairs_after}
use Rattle.tail.specs.Tail.{roles_in, finished}
use Rattle.store.specs.declared.Head.{Head}
use Rattle.store.specs.declared.Refusal.{Refusal}
use Rattle.store.specs.Store.{list_in, working_in}
use Rattle.store.specs.Header.{number_of, header_of}
use Rattle.asking.specs.declared.Asked.{Asked}

-- Document 02's number for each answer, with rank, place and agreement as a reading has them; and how many rows the store has, where that is known.
unfoldable pub numbers_of : Result Asked Refusal → Numbers
numbers_of (Err e) = numbered (number_of e) 0 0 0
numbers_of (Ok a) = answer_numbers a.answer

unfoldable pub rows_of : Result Asked Refusal → ℕ
rows_of (Err e) = 0
rows_of (Ok a) = a.rows

-- Past the check of the header: an answer for so many rows.
abbrev pub said : Answer → ℕ → Result Asked Refusal
said a rows = Ok (record { answer = a; rows = rows })

-- The answer, and the lent buffers at exit.
pub record Asking : Type 0 where
  pub answer : Result Asked Refusal
  pub lent : Lent

abbrev pub lending : List ℕ → List ℕ → List ℕ → List ℕ → Lent
lending page uses roles scratch = record { page = page; uses = uses; roles = roles; scratch = scratch }

abbrev pub asking : Result Asked Refusal → List ℕ → List ℕ → List ℕ → List ℕ → Asking
asking a page uses roles scratch = record { answer = a; lent = lending page uses roles scratch }

abbrev pub answering : Answer → List ℕ → List ℕ → List ℕ → List ℕ → Outcome
answering a page uses roles scratch = record { answer = a; lent = lending page uses roles scratch }

-- ---- the rows of the store

-- As a list: as many as the header says.
unfoldable pub list_of : Head → List ℕ → List ℕ
list_of h store = take (list_row_bytes h.l * h.rows) (list_in store)

-- What the working comes to, by the tail of a reading.
unfoldable pub ended : Head → List ℕ → List ℕ → List ℕ → List ℕ → List ℕ → Outcome
ended h store page uses roles scratch =
    let e = finished h.n h.l (list_of h store) h.taken h.rank (working_in store) roles page in
    answering e.answer e.page (pairs_after (places_part h.rows e.state) (uses_part (answer_numbers e.answer).rank e.state) uses)
    (roles_in h.n h.l (list_of h store) h.rank (working_in store) roles) (over zeros scratch)

-- "3 for the rest": uses are pairs of bytes.
unfoldable pub answered : Head → List ℕ → List ℕ → List ℕ → List ℕ → List ℕ → Outcome
answered h store page uses roles scratch =
    cond (room_for (h.n * h.l) h.rows (length page) (length uses / 2) (length roles) (length scratch)) (ended h store page uses roles scratch)
    (answering answer.Room page uses roles scratch)

-- ---- by the header

unfoldable pub asked_by : Result Head Refusal → List ℕ → List ℕ → List ℕ → List ℕ → List ℕ → Asking
asked_by (Err e) store page uses roles scratch = asking (Err e) page uses roles scratch
asked_by (Ok h) store page uses roles scratch =
    let o = answered h store page uses roles scratch in
    record { answer = said o.answer h.rows; lent = o.lent }

unfoldable pub asked : List ℕ → List ℕ → List ℕ → List ℕ → List ℕ → Asking
asked store page uses roles scratch = asked_by (header_of store) store page uses roles scratch
