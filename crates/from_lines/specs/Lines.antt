-- Lines taken one after the other, as the page reader takes them, and the frames that they stand for.
use Rattle.std.specs.Prelude.{ℕ, ◌≡◌, Bool, false, cond, List, [], ◌∷◌, Option, None}
use Rattle.frame.specs.Reading.{reading}
use Rattle.frame.specs.Numbers.{is_good}
use Rattle.laying.specs.Laying.{same_page}
use Rattle.crossing.specs.Held.{Held}
use Rattle.crossing.specs.Caught.{Caught, own, other}
use Rattle.text.specs.Hex.{pairs, bad}
use Rattle.lines.specs.declared.Page.{Page}
use Rattle.lines.specs.Taking.{LineTaken, take_line}

-- What lines have left: the page that is expected, and the list with its rows.
pub record Left : Type 0 where
  pub expected : Option Page
  pub held : Held

-- Before the first line no page is expected, and there are no rows, whatever the bytes of the list.
abbrev pub started : List ℕ → Left
started list = record { expected = None; held = record { list = list; rows = 0 } }

-- What a line's outcome leaves.
abbrev pub left_by : LineTaken → Left
left_by o = record { expected = o.taken.sheet.expected; held = record { list = o.list; rows = o.taken.sheet.rows } }

-- A line is taken over what those before it have left.
unfoldable pub taken_over : List ℕ → Left → Left
taken_over line left = left_by (take_line line (record { expected = left.expected; rows = left.held.rows }) left.held.list)

-- Lines are taken in order.
unfoldable pub taken_all : List (List ℕ) → Left → Left
taken_all [] left = left
taken_all (line ∷ lines) left = taken_all lines (taken_over line left)

-- The frames of lines: "A line of odd length, over 256 characters, or with another character" has none.
unfoldable pub frames_in : List (List ℕ) → List (List ℕ)
frames_in [] = []
frames_in (line ∷ lines) = cond (bad line) (frames_in lines) (pairs line ∷ frames_in lines)

-- Whether the first good frame is one of a page: it "sets the expected page number, n and L."
unfoldable pub first_of_page : ℕ → ℕ → ℕ → List (List ℕ) → Bool
first_of_page number n l [] = false
first_of_page number n l (frame ∷ frames) = cond (is_good (reading frame)) (same_page (reading frame) number n l) (first_of_page number n l frames)

-- Of what a camera caught: a frame of the page comes, and no good frame of another page before it.
abbrev pub OwnFirst : {A : Type 0} → List (Caught A) → Type 0
OwnFirst [] = ⊥
OwnFirst (own a ∷ caught) = Unit {0}
OwnFirst (other frame ∷ caught) = (is_good (reading frame) ≡ false) × OwnFirst caught
