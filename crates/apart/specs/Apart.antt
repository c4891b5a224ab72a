-- The rows of a list that don't agree with a page, and their entries gathered. Document 02, wish 1: "take those rows in their old order as a list".
use Rattle.std.specs.Prelude.{ℕ, suc, ◌*◌, ◌/◌, Bool, cond, not, ◌&&◌, List, map, leb, length}
use Rattle.space.specs.Lists.{select}
use Rattle.octets.specs.Octets.{flat, over, lay}
use Rattle.places.specs.Places.{most_rows}
use Rattle.rows.specs.Rows.{list_row_bytes, entries_of, vector, agrees}
use Rattle.rows.specs.Bytes.{cut, bytes_agree}

-- "those rows in their old order": the entries of the ones that don't agree with a page.
unfoldable pub apart : ℕ → List ℕ → List ℕ → List ℕ
apart l page entries = select (map (λ entry. not (agrees l page (vector l entry))) entries) entries

-- How many entries were gathered, and the room that they were copied to.
pub record Gathered : Type 0 where
  pub rows : ℕ
  pub list : List ℕ

abbrev pub gathers : ℕ → List ℕ → Gathered
gathers rows list = record { rows = rows; list = list }

-- One entry more, where its row does not agree with the page.
unfoldable pub appended : List ℕ → List ℕ → List ℕ → ℕ → List ℕ → Gathered
appended page row entry k list = cond (bytes_agree page row) (gathers k list) (gathers (suc k) (lay (k * length entry) entry list))

-- All of them, over the front of the room.
unfoldable pub gathered : ℕ → List ℕ → List ℕ → Gathered
gathered l entries room = gathers (length entries) (over (flat (list_row_bytes l) entries) room)

-- L is 1 to 32, a list of so many bytes has at most 512 entries, and the room is as long as the list.
unfoldable pub gatherable : ℕ → ℕ → ℕ → Bool
gatherable l list room = (leb 1 l && leb l 32) && (leb (list / list_row_bytes l) most_rows && leb list room)

-- Of a list, by a page as bytes; where it doesn't fit none are gathered and nothing is written.
unfoldable pub gathered_from : ℕ → List ℕ → List ℕ → List ℕ → Gathered
gathered_from l list page room = cond (gatherable l (length list) (length room)) (gathered l (apart l (cut l page) (entries_of l list)) room) (gathers 0 room)
