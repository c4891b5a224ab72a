-- What writing leaves in the room: the frame that is shown.
use Rattle.std.specs.Prelude.{ℕ, List, take}
use Rattle.frame.specs.Layout.{frame_length}
use Rattle.writing.specs.Writing.{write_answer, frame_of, room_after}

-- The first 22+L bytes of the room, after writing the frame of a page and a seed.
unfoldable pub sent : ℕ → ℕ → ℕ → ℕ → List ℕ → List ℕ → List ℕ
sent p n l seed page room = take (frame_length l) (room_after (write_answer n l page room) (frame_of p n l seed page) room)
