-- What laying a frame into a list answers, and the list afterwards. Document 01, "The frame": "Laying a frame into a list takes the
-- expected page number, n, L and an arrival number."
use Rattle.std.specs.Prelude.{ℕ, ◌+◌, ◌*◌, Bool, cond, not, ◌&&◌, List, ◌++◌, Result, Ok, Err, eqb, ltb, length}
use Rattle.octets.specs.Octets.{bytes}
use Rattle.octets.specs.Octets as octets
use Rattle.rows.specs.Rows.{shape, seed_bytes, list_row_bytes}
use Rattle.draw.specs.Draw.{constraint}
use Rattle.frame.specs.declared.Frame.{Frame}
use Rattle.laying.specs.declared.Refusal.{Refusal}
use Rattle.laying.specs.declared.Refusal.TheVariants as refusal
use Rattle.frame.specs.Reading.{reading}
use Rattle.frame.specs.Numbers as frames

-- Document 01's number and place for each answer: "for 11 to 15 the frame's place, else 0."
unfoldable pub number_of : Result Unit Refusal → ℕ
number_of (Ok _) = 0
number_of (Err refusal.Shape) = 1
number_of (Err (refusal.Frame f)) = frames.number_of f
number_of (Err refusal.OtherPage) = 16
number_of (Err refusal.Full) = 2
number_of (Err refusal.Room) = 3

unfoldable pub place_of : Result Unit Refusal → ℕ
place_of (Ok _) = 0
place_of (Err refusal.Shape) = 0
place_of (Err (refusal.Frame f)) = frames.place_of f
place_of (Err refusal.OtherPage) = 0
place_of (Err refusal.Full) = 0
place_of (Err refusal.Room) = 0

-- "16 other page, if page number, n or L differ".
unfoldable pub same_page : Frame → ℕ → ℕ → ℕ → Bool
same_page f page n l = eqb (frames.frame_numbers f).page page && (eqb (frames.frame_numbers f).n n && eqb (frames.frame_numbers f).l l)

-- "2, arrival number over 511; 3, list too short for that place."
unfoldable pub placing : ℕ → ℕ → List ℕ → Result Unit Refusal
placing l arrival list =
    cond (ltb 511 arrival) (Err refusal.Full)
    (cond (ltb (length list) (list_row_bytes l * arrival + list_row_bytes l)) (Err refusal.Room)
    (Ok tt))

-- "Order: 1; the frame's 11 to 15; 16 ..; 2 ..; 3 ..".
unfoldable pub laid : List ℕ → ℕ → ℕ → ℕ → ℕ → List ℕ → Result Unit Refusal
laid frame page n l arrival list =
    cond (not (shape n l)) (Err refusal.Shape)
    (cond (not (eqb (frames.number_of (reading frame)) 0)) (Err (refusal.Frame (reading frame)))
    (cond (not (same_page (reading frame) page n l)) (Err refusal.OtherPage)
    (placing l arrival list)))

-- The row of a frame: its constraint, drawn from its seed, then its payload.
unfoldable pub frame_row : List ℕ → List ℕ
frame_row frame = bytes 8 (constraint (frames.frame_numbers (reading frame)).n (frames.frame_numbers (reading frame)).seed) ++ frames.payload_of frame

-- What stands for it in a list. Document 02, wish 3: "the 4-byte seed in front"; "Laying carries the seed".
unfoldable pub frame_entry : List ℕ → List ℕ
frame_entry frame = bytes seed_bytes (frames.frame_numbers (reading frame)).seed ++ frame_row frame

-- "The row goes into the middle of the caller's list, .. and no byte on either side of it changes. .. Refused, they write nothing."
unfoldable pub list_after : Result Unit Refusal → ℕ → List ℕ → List ℕ → List ℕ
list_after (Ok _) at entry list = octets.lay at entry list
list_after (Err why) at entry list = list
