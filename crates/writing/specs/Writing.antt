-- What writing a frame answers, and the room afterwards. Document 01, "The frame": "Writing takes page number, n, L, seed, page and room."
use Rattle.std.specs.Prelude.{ℕ, ◌*◌, cond, not, List, Result, Ok, Err, eqb, ltb, length}
use Rattle.octets.specs.Octets.{bytes, over}
use Rattle.rows.specs.Rows.{shape, symbols, named}
use Rattle.draw.specs.Draw.{constraint}
use Rattle.writing.specs.declared.Refusal.{Refusal}
use Rattle.writing.specs.declared.Refusal.TheVariants.{Shape, Length, Room}
use Rattle.frame.specs.Layout.{frame_length, frame_bytes}

-- Document 01's number and place for each answer: "a number (0 when done) and a place: for 11 to 15 the frame's place, else 0."
unfoldable pub number_of : Result Unit Refusal → ℕ
number_of (Ok _) = 0
number_of (Err Shape) = 1
number_of (Err Length) = 8
number_of (Err Room) = 3

unfoldable pub place_of : Result Unit Refusal → ℕ
place_of a = 0

-- "Order: 1 shape; 8, page length other than nL; 3, room under 22+L."
unfoldable pub write_answer : ℕ → ℕ → List ℕ → List ℕ → Result Unit Refusal
write_answer n l page room =
    cond (not (shape n l)) (Err Shape)
    (cond (not (eqb (length page) (n * l))) (Err Length)
    (cond (ltb (length room) (frame_length l)) (Err Room)
    (Ok tt)))

-- The sum of the symbols that a constraint names, as the bytes of a payload.
unfoldable pub sum_bytes : ℕ → ℕ → List ℕ → ℕ → List ℕ
sum_bytes n l page c = bytes l (named (symbols n l page) c)

-- The frame of a page and a seed.
unfoldable pub frame_of : ℕ → ℕ → ℕ → ℕ → List ℕ → List ℕ
frame_of number n l seed page = frame_bytes number n l seed (sum_bytes n l page (constraint n seed))

-- "A refusal writes nothing; success writes exactly 22+L bytes."
unfoldable pub room_after : Result Unit Refusal → List ℕ → List ℕ → List ℕ
room_after (Ok _) frame room = over frame room
room_after (Err why) frame room = room
