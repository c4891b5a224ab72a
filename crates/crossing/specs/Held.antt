-- Frames laid one after the other: what a phone holds that takes the frames of one page, whatever else it sees in between.
use Rattle.std.specs.Prelude.{ℕ, suc, ◌*◌, cond, List, [], ◌∷◌, eqb, take}
use Rattle.rows.specs.Rows.{list_row_bytes}
use Rattle.laying.specs.Laying.{laid, number_of, list_after, frame_entry}

-- The list lent for the rows, and how many are laid in it.
pub record Held : Type 0 where
  pub list : List ℕ
  pub rows : ℕ

-- A list with no rows yet, whatever its bytes.
abbrev pub blank : List ℕ → Held
blank list = record { list = list; rows = 0 }

-- A frame is laid at the next arrival number; a refused one changes nothing.
unfoldable pub offered : ℕ → ℕ → ℕ → List ℕ → Held → Held
offered number n l frame s =
    record {
      list = list_after (laid frame number n l s.rows s.list) (list_row_bytes l * s.rows) (frame_entry frame) s.list;
      rows = cond (eqb (number_of (laid frame number n l s.rows s.list)) 0) (suc s.rows) s.rows;
    }

-- Frames are laid in the order in which they come.
unfoldable pub offered_all : ℕ → ℕ → ℕ → List (List ℕ) → Held → Held
offered_all number n l [] s = s
offered_all number n l (frame ∷ frames) s = offered_all number n l frames (offered number n l frame s)

-- The rows laid, as the list that is then read.
unfoldable pub list_held : ℕ → Held → List ℕ
list_held l s = take (list_row_bytes l * s.rows) s.list

-- The list that comes of frames laid one after the other into a lent list.
unfoldable pub list_laid : ℕ → ℕ → ℕ → List (List ℕ) → List ℕ → List ℕ
list_laid number n l frames list = list_held l (offered_all number n l frames (blank list))
