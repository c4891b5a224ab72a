-- What is found where a field is expected. Document 01, "The frame".
use Rattle.std.specs.Prelude.{ℕ, ◌+◌, cond, not, List, Result, Ok, Err, eqb, ltb, length, get_or, take, drop}
use Rattle.octets.specs.Octets.{number}
use Rattle.field.specs.declared.Fault.{Fault}
use Rattle.field.specs.declared.Fault.TheVariants as fault
use Rattle.field.specs.declared.Refusal.{Refusal}
use Rattle.field.specs.declared.Refusal.TheVariants as refusal

-- The first length byte of the field that starts at `at`: behind its tag.
abbrev pub length_at : ℕ → ℕ
length_at at = at + 1

-- "In each field: under 3 bytes remain, 11 short; wrong tag, 12; wrong length, 13; value not all there, 11".
unfoldable pub field_of : List ℕ → ℕ → ℕ → Result Unit Fault
field_of rest tag size =
    cond (ltb (length rest) 3) (Err fault.Short)
    (cond (not (eqb (get_or rest 0 0) tag)) (Err fault.WrongTag)
    (cond (not (eqb (number (take 2 (drop 1 rest))) size)) (Err fault.WrongLength)
    (cond (ltb (length rest) (3 + size)) (Err fault.Short)
    (Ok tt))))

-- "The place is the offset of the field's start"; since wish 2: "The place for 13 should be the first length byte, and for 11 the number of
-- bytes in the frame."
unfoldable pub refused_at : List ℕ → ℕ → Fault → Refusal
refused_at frame at fault.Short = refusal.Short (length frame)
refused_at frame at fault.WrongTag = refusal.WrongTag at
refused_at frame at fault.WrongLength = refusal.WrongLength (length_at at)

-- What is expected at a place and stands whole there is passed; anything else refuses the frame.
unfoldable pub placed : List ℕ → ℕ → Result Unit Fault → Result Unit Refusal
placed frame at (Ok _) = Ok tt
placed frame at (Err why) = Err (refused_at frame at why)

unfoldable pub expected : List ℕ → ℕ → ℕ → ℕ → Result Unit Refusal
expected frame at tag size = placed frame at (field_of (drop at frame) tag size)
