-- Making a row from a page and a constraint: document 01, "The frame", and document 02, wish 3.
use Rattle.std.specs.Prelude.{ℕ, ◌*◌, cond, not, List, ◌++◌, Result, Ok, Err, eqb, leb, ltb, length}
use Rattle.octets.specs.Octets.{bytes, over}
use Rattle.rows.specs.Rows.{shape, seed_bytes, entry_head_bytes, list_row_bytes}
use Rattle.rows.specs.Bytes.{stray, entry_of}
use Rattle.making.specs.declared.Refusal.{Refusal}
use Rattle.making.specs.declared.Refusal.TheVariants.{Shape, Stray, Room, Length}

-- "return a number (0 when done)":
unfoldable pub number_of : Result Unit Refusal → ℕ
number_of (Ok _) = 0
number_of (Err Shape) = 1
number_of (Err Room) = 3
number_of (Err Stray) = 4
number_of (Err Length) = 8

-- "and a place: for 11 to 15 the frame's place, else 0."
unfoldable pub place_of : Result Unit Refusal → ℕ
place_of answer = 0

-- "8, page length other than nL"; "Making a row from a constraint has the same order: 1; 8; 4 stray; 3, room under 8+L", which document 02, wish 3,
-- makes 12+L. The page and the room count by their lengths.
unfoldable pub make_answer : ℕ → ℕ → ℕ → ℕ → ℕ → Result Unit Refusal
make_answer n l c page room =
    cond (not (shape n l)) (Err Shape)
    (cond (not (eqb page (n * l))) (Err Length)
    (cond (stray n c) (Err Stray)
    (cond (ltb room (list_row_bytes l)) (Err Room)
    (Ok tt))))

-- "Success writes exactly the first" 12+L bytes. "Refused, they write nothing."
unfoldable pub make_room : ℕ → ℕ → ℕ → ℕ → List ℕ → List ℕ → List ℕ
make_room n l seed c page room = cond (eqb (number_of (make_answer n l c (length page) (length room))) 0) (over (entry_of n l seed c page) room) room

-- What stands before the payload in an entry, seed and constraint; and a room with them over its first bytes, which stays where it has fewer.
unfoldable pub entry_head : ℕ → ℕ → List ℕ
entry_head seed c = bytes seed_bytes seed ++ bytes 8 c

unfoldable pub headed : ℕ → ℕ → List ℕ → List ℕ
headed seed c room = cond (leb entry_head_bytes (length room)) (over (entry_head seed c) room) room
