-- Document 01's number, place and values for each answer of reading a frame, and the payload that goes with it: the part of l bytes at the
-- offset.
use Rattle.std.specs.Prelude.{ℕ, ◌+◌, Bool, List, eqb, take, drop}
use Rattle.frame.specs.declared.Frame.{Frame}
use Rattle.frame.specs.declared.Frame.TheVariants.{Good, Short, WrongTag, WrongLength, OutOfRange, Trailing}
use Rattle.frame.specs.declared.Numbers.{Numbers}
use Rattle.frame.specs.Layout.{shape_at, payload_at}
use Rattle.frame.specs.Reading.{reading}

-- "A refusal gives all other numbers as 0." Its payload is "the empty part at its start".
abbrev pub refused : ℕ → ℕ → Numbers
refused number place = record { number = number; place = place; page = 0; n = 0; l = 0; seed = 0; offset = 0 }

-- "A good reading gives number 0, place 0, the page number, n, L and seed, and hands the payload back".
unfoldable pub frame_numbers : Frame → Numbers
frame_numbers (Good page n l seed) = record { number = 0; place = 0; page = page; n = n; l = l; seed = seed; offset = payload_at + 3 }
frame_numbers (Short place) = refused 11 place
frame_numbers (WrongTag place) = refused 12 place
frame_numbers (WrongLength place) = refused 13 place
frame_numbers OutOfRange = refused 14 shape_at
frame_numbers (Trailing place) = refused 15 place

abbrev pub number_of : Frame → ℕ
number_of f = (frame_numbers f).number

-- Whether a frame was read right: "A good reading gives number 0".
abbrev pub is_good : Frame → Bool
is_good f = eqb (number_of f) 0

abbrev pub place_of : Frame → ℕ
place_of f = (frame_numbers f).place

abbrev pub offset_of : Frame → ℕ
offset_of f = (frame_numbers f).offset

-- The part of a frame that a reading of it hands back.
unfoldable pub payload_of : List ℕ → List ℕ
payload_of frame = take (frame_numbers (reading frame)).l (drop (offset_of (reading frame)) frame)
