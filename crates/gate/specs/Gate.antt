-- The checks 1 to 3 as the reader makes them, of lengths alone.
use Rattle.std.specs.Prelude.{ℕ, ◌*◌, ◌/◌, cond, not, Result, Ok, Err}
use Rattle.rows.specs.Rows.{shape, list_row_bytes}
use Rattle.reading.specs.declared.Answer.{Answer}
use Rattle.reading.specs.declared.Answer.TheVariants as answer
use Rattle.reading.specs.Outcome.{whole_length, room_for}
use Rattle.gate.specs.declared.Refusal.{Refusal}
use Rattle.gate.specs.declared.Refusal.TheVariants.{Shape, Room}
use Rattle.gate.specs.declared.Refusal.TheVariants as refusals

-- The answer of a reading that each is.
abbrev pub refused : Refusal → Answer
refused Shape = answer.Shape
refused refusals.List = answer.List
refused Room = answer.Room

-- What 1 to 3 say, by the lengths of the list and of the four buffers.
unfoldable pub gate : ℕ → ℕ → ℕ → ℕ → ℕ → ℕ → ℕ → Result (Unit {0}) Refusal
gate n l list page uses roles scratch =
    cond (not (shape n l)) (Err Shape)
    (cond (not (whole_length l list)) (Err refusals.List)
    (cond (not (room_for (n * l) (list / list_row_bytes l) page uses roles scratch)) (Err Room) (Ok tt)))
