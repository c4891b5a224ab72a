-- A store with its newest row taken in. Document 02, wish 5: the store "holds the rows, kept rows, their eliminated forms, uses and rank, true after each
-- offered frame".
use Rattle.std.specs.Prelude.{ℕ, ◌+◌, ◌%◌, ◌≤◌, ◌<◌, cond, Result, Ok, Err, List, length}
use Rattle.octets.specs.Octets.{number}
use Rattle.doubles.specs.Doubles.{put_pair}
use Rattle.places.specs.Places.{most_rows}
use Rattle.lists.specs.Lists.{row_at}
use Rattle.noting.specs.Noting.{ordered_state}
use Rattle.absorb.specs.Absorbing.{Absorption, absorption}
use Rattle.echelon.specs.Eliminating.{rank_after}
use Rattle.store.specs.declared.Head.{Head}
use Rattle.store.specs.declared.Refusal.{Refusal}
use Rattle.store.specs.Store.{rows_place, taken_place, rank_place, list_in, working_in, with_working}
use Rattle.store.specs.Header.{header_of}
use Rattle.noticing.specs.Noticing.{is_repeat, noticed}

-- The three numbers of the header that change with a row, in two bytes each.
unfoldable pub counted_in : ℕ → ℕ → ℕ → List ℕ → List ℕ
counted_in rows taken rank store = put_pair rank_place (rank % 65536) (put_pair taken_place (taken % 65536) (put_pair rows_place (rows % 65536) store))

-- What the check of a header tells of these numbers.
pub record Ranged (h : Head) : Type 0 where
  pub rows : h.rows ≤ most_rows
  pub taken : h.taken < 65536
  pub rank : h.rank < 65536

-- What becomes of a row whose arrival is written in the order of a working, behind those taken before: it is kept, or its uses are counted.
unfoldable pub admission : List ℕ → ℕ → ℕ → ℕ → List ℕ → Absorption
admission row arrival taken rank working = absorption (length row) (number row) arrival rank (ordered_state taken arrival working)

-- The same of a store, for the row that stands in its list behind those that the header counts.
abbrev pub admission_in : Head → List ℕ → Absorption
admission_in h store = admission (row_at h.l h.rows (list_in store)) h.rows h.taken h.rank (working_in store)

-- One that counts is taken in.
unfoldable pub admitted : Head → List ℕ → List ℕ
admitted h store =
    let a = admission_in h store in
    counted_in (h.rows + 1) (h.taken + 1) (rank_after a.answer h.rank) (with_working a.state store)

-- A repeat "adds to no uses and no agreement": it is counted among the rows, and that is all.
unfoldable pub taken_by : Result Head Refusal → List ℕ → List ℕ
taken_by (Err e) store = store
taken_by (Ok h) store =
    let seen = noticed h.l h.rows store in
    cond (is_repeat h.l h.rows store) (counted_in (h.rows + 1) h.taken h.rank seen) (admitted h seen)

unfoldable pub newest_taken : List ℕ → List ℕ
newest_taken store = taken_by (header_of store) store
