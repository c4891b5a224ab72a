-- What the laws of both readings speak of: the page given first, the rows of the second list, and rows of a page that was saved twice.
use Rattle.std.specs.Prelude.{ℕ, ◌*◌, ◌||◌, List, take}
use Rattle.space.specs.Lists.{All}
use Rattle.rows.specs.Rows.{symbols, list_row_bytes, entries_of, rows_of, agrees}
use Rattle.both.specs.Both.{Pair}

-- The symbols of the page that the first reading gave.
abbrev pub page_given : ℕ → ℕ → Pair → List ℕ
page_given n l p = symbols n l p.lent.page

-- The second list: what was copied to the front of its buffer, as bytes, as entries and as rows.
abbrev pub second_list : ℕ → Pair → List ℕ
second_list l p = take (p.answers.rows * list_row_bytes l) p.second.list

abbrev pub second_entries : ℕ → Pair → List ℕ
second_entries l p = entries_of l (second_list l p)

abbrev pub second_rows : ℕ → Pair → List ℕ
second_rows l p = rows_of l (second_list l p)

-- Each row is of one of two versions.
abbrev pub OfEither : ℕ → List ℕ → List ℕ → List ℕ → Type 0
OfEither l one other rows = All (λ r. agrees l one r || agrees l other r) rows
