-- What reading a frame answers. Document 01, "The frame".
use Rattle.std.specs.Prelude.{ℕ, cond, not, List, Result, Ok, Err, ltb, length, get_or}
use Rattle.octets.specs.Octets.{number}
use Rattle.rows.specs.Rows.{shape}
use Rattle.field.specs.declared.Refusal.{Refusal}
use Rattle.field.specs.declared.Refusal.TheVariants as refusal
use Rattle.field.specs.Expected.{expected}
use Rattle.frame.specs.declared.Frame.{Frame}
use Rattle.frame.specs.declared.Frame.TheVariants as frames
use Rattle.frame.specs.Layout.{page_at, shape_at, seed_at, payload_at, frame_length, value}

-- A field that is not whole refuses the frame, with the place found in it.
unfoldable pub refusing : Refusal → Frame
refusing (refusal.Short place) = frames.Short place
refusing (refusal.WrongTag place) = frames.WrongTag place
refusing (refusal.WrongLength place) = frames.WrongLength place

-- What a reading ends with is its answer; a field that is not whole refuses the frame.
abbrev pub answered : Result Frame Refusal → Frame
answered (Ok frame) = frame
answered (Err why) = refusing why

-- "Reading goes left to right": behind a whole field it goes on.
unfoldable pub behind : Result Unit Refusal → Frame → Frame
behind (Ok _) next = next
behind (Err why) next = refusing why

-- "tag 1, page number, 4 bytes"
unfoldable pub first : List ℕ → Frame → Frame
first frame next = behind (expected frame page_at 1 4) next

-- "tag 2, n and L, 2 bytes"; "after field 2, n or L out of range, 14."
unfoldable pub n_of : List ℕ → ℕ
n_of frame = get_or (value frame shape_at 2) 0 0

unfoldable pub l_of : List ℕ → ℕ
l_of frame = get_or (value frame shape_at 2) 1 0

unfoldable pub second : List ℕ → Frame → Frame
second frame next = behind (expected frame shape_at 2 2) (cond (not (shape (n_of frame) (l_of frame))) frames.OutOfRange next)

-- "tag 3, seed, 4 bytes"
unfoldable pub third : List ℕ → Frame → Frame
third frame next = behind (expected frame seed_at 3 4) next

-- "tag 4, payload, L bytes"; "After field 4, further bytes are 15 trailing. The place is .. the first extra byte."
unfoldable pub ended : List ℕ → ℕ → Frame → Frame
ended frame l next = cond (ltb (frame_length l) (length frame)) (frames.Trailing (frame_length l)) next

unfoldable pub fourth : List ℕ → ℕ → Frame → Frame
fourth frame l next = behind (expected frame payload_at 4 l) (ended frame l next)

-- "A good reading gives .. the page number, n, L and seed".
unfoldable pub good : List ℕ → ℕ → ℕ → Frame
good frame n l = frames.Good (number (value frame page_at 4)) n l (number (value frame seed_at 4))

-- Reading from the second field on; and whole.
unfoldable pub from_shape : List ℕ → Frame
from_shape frame = second frame (third frame (fourth frame (l_of frame) (good frame (n_of frame) (l_of frame))))

unfoldable pub reading : List ℕ → Frame
reading frame = first frame (from_shape frame)
