-- The list order in the words of document 01 and of wish 3, over the whole list: what is kept, what is marked, what is counted.
-- Assumes nothing.
use mathlib.Core.Path.{◌≡◌, sym, ap, ◌∙◌}
use Prim.Native.Nat.{ℕ}
use mathlib.Core.Bool.{Bool, not}
use mathlib.Core.List.{List, map}
use lib.ListN.{length, length-map}
use Rattle.space.specs.Lists.{select, count}
use Rattle.space.proofs.Lists.{select-map}
use Rattle.rows.specs.Rows.{vector, entries_of, rows_of, agrees}
use Rattle.reading.specs.Reading.{kept, kept_rows, other_rows, rank, uses_of, uses, picks, picked, agreement}
use Rattle.reading.specs.Orders.{arrivals, counts, taken, in_list_order}
use Rattle.reading.specs.Marks.{by_arrival, kept_arrivals, uses_marks, roles_marks}
use Rattle.reading.proofs.Kept.{length-kept}
use Rattle.reading.proofs.Listed.{taken-listed}
use Rattle.held.specs.Listed.{spread, counted_others, counted_rows}
use Rattle.held.proofs.Whole.{select-select, kept-taken, repeat_never_kept}
use Rattle.held.proofs.Spread.{spread-arrivals}

module _ (l : ℕ) (entries : List ℕ) where
  abbrev rows : List ℕ
  rows = map (vector l) entries

  abbrev these : List ℕ
  these = taken l entries (in_list_order entries)

  -- "adds to .. no agreement": those are counted that count and agree
  pub agreement-listed : (page : List ℕ)
      → agreement l page (taken l entries (in_list_order entries)) ≡ count (agrees l page) (select (counts entries) (map (vector l) entries))
  unfolding agreement
  agreement-listed page = rw (taken-listed l entries)

  -- ---- "Kept rows don't change."

  same_kept : {A : Type 0} (xs : List A) → select (kept these) (select (counts entries) xs) ≡ select (kept rows) xs
  same_kept xs = rw (taken-listed l entries, kept-taken l entries) (select-select (counts entries) (kept rows) xs ∙ rw (repeat_never_kept l entries))

  pub kept-all : kept_arrivals l entries (in_list_order entries) ≡ select (kept (map (vector l) entries)) (arrivals (length entries))
  unfolding kept_arrivals in_list_order
  kept-all = unfold in_list_order in same_kept (arrivals (length entries))

  pub kept_rows-all : kept_rows (taken l entries (in_list_order entries)) ≡ kept_rows (map (vector l) entries)
  unfolding kept_rows
  kept_rows-all = ap (λ (rs : List ℕ). select (kept these) rs) (taken-listed l entries) ∙ same_kept rows

  pub rank-all : rank (taken l entries (in_list_order entries)) ≡ rank (map (vector l) entries)
  unfolding rank
  rank-all = ap length kept_rows-all

  other_rows-all : other_rows these ≡ counted_others l entries
  unfolding other_rows counted_others
  other_rows-all =
      rw (taken-listed l entries, kept-taken l entries) (ap (λ (bs : List Bool). select bs (select (counts entries) rows)) (sym (select-map not (counts entries) (kept rows)))
      ∙ select-select (counts entries) (map not (kept rows)) rows)

  -- "The uses of a kept row are the rows not kept whose set contains it", of the rows that count
  pub uses-all : uses (taken l entries (in_list_order entries)) ≡ uses_of (kept_rows (map (vector l) entries)) (counted_others l entries)
  unfolding uses
  uses-all = rw (kept_rows-all, other_rows-all)

  -- ---- the marks

  pub marks_all : (d : ℕ) (vs : List ℕ) → by_arrival d (length entries) (kept_arrivals l entries (in_list_order entries)) vs ≡ spread d (kept (map (vector l) entries)) vs
  marks_all d vs = rw (kept-all, ← size) (spread-arrivals d (kept rows) vs)
    where
      size : length (kept rows) ≡ length entries
      size = length-kept rows ∙ length-map entries (vector l)

  pub uses-listed : uses_marks l entries (in_list_order entries)
      ≡ spread 65535 (kept (map (vector l) entries)) (uses_of (kept_rows (map (vector l) entries)) (counted_others l entries))
  unfolding uses_marks
  uses-listed = rw uses-all (marks_all 65535 (uses_of (kept_rows rows) (counted_others l entries)))

  pub roles-listed : (role : Bool → ℕ) (n : ℕ) → roles_marks role n l entries (in_list_order entries)
      ≡ spread 0 (kept (map (vector l) entries)) (map role (picks n (uses_of (kept_rows (map (vector l) entries)) (counted_others l entries))))
  unfolding roles_marks picked
  roles-listed role n = rw uses-all (marks_all 0 (map role (picks n (uses_of (kept_rows rows) (counted_others l entries)))))

-- of lists of bytes, the rows taken in list order
pub counted-taken : (l : ℕ) (list : List ℕ) → taken l (entries_of l list) (in_list_order (entries_of l list)) ≡ counted_rows l list
unfolding rows_of
counted-taken l list = taken-listed l (entries_of l list)

pub counted-rank : (l : ℕ) (list : List ℕ) → rank (counted_rows l list) ≡ rank (rows_of l list)
counted-rank l list = ap rank (sym (counted-taken l list)) ∙ unfold rows_of in rank-all l (entries_of l list)
