-- What stands at the place of a refusal. Wish 2 of document 02: "Point at the bad byte."
-- `reading` finds the place by looking left to right; this holds an answer against the frame without looking that way again.
use Rattle.std.specs.Prelude.{ℕ, ◌+◌, Bool, true, not, ◌&&◌, ◌||◌, List, eqb, leb, ltb, length, get_or, take, drop}
use Rattle.octets.specs.Octets.{number}
use Rattle.rows.specs.Rows.{shape}
use Rattle.frame.specs.declared.Frame.{Frame}
use Rattle.frame.specs.declared.Frame.TheVariants.{Good, Short, WrongTag, WrongLength, OutOfRange, Trailing}
use Rattle.field.specs.Expected.{length_at}
use Rattle.frame.specs.Layout.{page_at, shape_at, seed_at, payload_at, frame_length}
use Rattle.frame.specs.Reading.{n_of, l_of}

-- One of the four fields passes a test of its start, its tag and its value's length.
unfoldable pub some_field : List ℕ → (ℕ → ℕ → ℕ → Bool) → Bool
some_field frame p = p page_at 1 4 || (p shape_at 2 2 || (p seed_at 3 4 || p payload_at 4 (l_of frame)))

-- At the place a field starts, and the byte there is not its tag.
unfoldable pub bad_tag : List ℕ → ℕ → Bool
bad_tag frame place = some_field frame (λ at tag size. eqb place at && not (eqb (get_or frame place 0) tag))

-- At the place a field has its length, and the two bytes there are not that length.
unfoldable pub bad_length : List ℕ → ℕ → Bool
bad_length frame place = some_field frame (λ at tag size. eqb place (length_at at) && not (eqb (number (take 2 (drop place frame))) size))

-- 11 points at the frame's end, where bytes are missing; 12 at a bad tag; 13 at a bad length; under 14 n and L are there and out of range;
-- 15 points at the first byte that is too many.
unfoldable pub pointed : List ℕ → Frame → Bool
pointed frame (Good page n l seed) = true
pointed frame (Short place) = eqb place (length frame) && ltb place (frame_length (l_of frame))
pointed frame (WrongTag place) = ltb place (length frame) && bad_tag frame place
pointed frame (WrongLength place) = ltb (place + 1) (length frame) && bad_length frame place
pointed frame OutOfRange = leb seed_at (length frame) && not (shape (n_of frame) (l_of frame))
pointed frame (Trailing place) = eqb place (frame_length (l_of frame)) && ltb place (length frame)
