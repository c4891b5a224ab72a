-- When a page that a reading gives is confirmed, and what that means. A row is a number; n is the number of symbols and l the bytes of one.
-- With rank n the picked rows agree with the page whatever they hold, so agreement says nothing of them. A row that is not kept speaks for
-- each row of its set: a picked row with no use is spoken for by none.
use Rattle.std.specs.Prelude.{ℕ, ◌*◌, ◌^◌, ◌≤◌, ◌≡◌, Bool, true, false, not, ◌&&◌, List, [], ◌∷◌, ◌++◌, eqb, leb, length, get_or, take}
use Rattle.space.specs.Lists.{select, marked, count, All, Below}
use Rattle.rows.specs.Rows.{agrees, symbols}
use Rattle.reading.specs.Reading.{kept_rows, rank, uses, picked, picked_rows, page_of, few, tie, singular}
use Rattle.reading.specs.Outcome.{Outcome}
use Rattle.held.specs.Listed.{counted_rows, listed_uses}

-- Every picked row has a use: none of them has 0.
unfoldable pub confirmed : ℕ → List ℕ → Bool
confirmed n rows = eqb (count (eqb 0) (select (picked n rows) (uses rows))) 0

-- The same, read off the roles and the uses that a reading writes: no arrival has the role 2 and the use 0.
unfoldable pub confirmed_marks : List ℕ → List ℕ → Bool
confirmed_marks [] us = true
confirmed_marks (r ∷ roles) [] = true
confirmed_marks (r ∷ roles) (u ∷ us) = not (eqb r 2 && eqb u 0) && confirmed_marks roles us

-- So of an outcome, of which the first m roles and uses are the marks.
unfoldable pub confirms : ℕ → Outcome → Bool
confirms m o = confirmed_marks (take m o.lent.roles) (take m o.lent.uses)

-- ---- pages and misread rows

-- "A page is n symbols of L bytes."
pub record IsPage (n l : ℕ) (page : List ℕ) : Type 0 where
  pub size : length page ≡ n
  pub symbols : Below (2 ^ (8 * l)) page

-- A row that does not agree with the page that was sent was misread.
unfoldable pub misread : ℕ → List ℕ → ℕ → Bool
misread l page row = not (agrees l page row)

-- A reading gives a page: it refuses the rows neither as 5 nor as 6 nor as 7.
pub record GivesPage (n l : ℕ) (rows : List ℕ) : Type 0 where
  pub enough : few n rows ≡ false
  pub chosen : tie n rows ≡ false
  pub sound : singular n l rows ≡ false

-- The page that it gives.
abbrev pub given : ℕ → ℕ → List ℕ → List ℕ
given n l rows = page_of n l (picked_rows n rows)

-- No single misread row can have made the given page wrong: whichever page was sent, if one row at most was misread, it is the given one.
abbrev pub Certain : ℕ → ℕ → List ℕ → Type 0
Certain n l rows = (page : List ℕ) → IsPage n l page → count (misread l page) rows ≤ 1 → given n l rows ≡ page

-- The same of a list of bytes and the page at the front of an outcome's buffer: if one row that counts at most was misread. A misread frame that is held on
-- the screen, and stands thirty times in the list, is one such row.
abbrev pub CertainList : ℕ → ℕ → List ℕ → Outcome → Type 0
CertainList n l list o =
    (page : List ℕ) → length page ≡ n * l → Below 256 page → count (misread l (symbols n l page)) (counted_rows l list) ≤ 1 → take (n * l) o.lent.page ≡ page

-- ---- rows that enough others speak for

-- Some n of the kept rows agree with the page, and each has b uses or more.
pub record Enough (n l : ℕ) (rows page : List ℕ) (b : ℕ) : Type 0 where
  pub these : List Bool
  pub size : length these ≡ rank rows
  pub number : marked these ≡ n
  pub agree : All (agrees l page) (select these (kept_rows rows))
  pub used : All (leb b) (select these (uses rows))

-- ---- a row that nothing speaks for

-- Of rows that all count, the row r, after some and before others, is kept and has no use: its mark is 0.
abbrev pub Unused : List ℕ → ℕ → List ℕ → Type 0
Unused before r after = get_or (listed_uses (before ++ r ∷ after)) (length before) 65535 ≡ 0

-- Nothing but the page tells two outcomes apart: not the answer with its rank and agreement, and none of the other lent buffers.
pub record Untold (o p : Outcome) : Type 0 where
  pub answer : p.answer ≡ o.answer
  pub uses : p.lent.uses ≡ o.lent.uses
  pub roles : p.lent.roles ≡ o.lent.roles
  pub scratch : p.lent.scratch ≡ o.lent.scratch
