-- The laws of confirmed pages for lists of bytes and the whole outcome, as a phone app sees it: the page is the front of its buffer, and whether it
-- is confirmed is read off the roles and the uses.
-- Assumes nothing.
use mathlib.Core.Path.{◌≡◌, sym, ap, ap₂, ◌∙◌}
use Prim.Native.Nat.{ℕ, ◌*◌, ◌^◌, ◌<◌}
use mathlib.Core.Bool.{true}
use mathlib.Core.List.{List, map}
use mathlib.Core.Logic.{◌↔◌}
use lib.ListN.{length, take}
use Rattle.space.specs.Lists.{Below}
use Rattle.octets.specs.Octets.{numbers, flat}
use Rattle.octets.proofs.Runs.{length-flat, flat_below, numbers-flat, take-over}
use Rattle.rows.specs.Rows.{symbols, row_count, entries_of, rows_of, constraint}
use Rattle.rows.proofs.Shape.{shape_range}
use Rattle.rows.proofs.Pages.{length_symbols, symbols_below, flat-symbols}
use Rattle.reading.specs.Reading.{rank}
use Rattle.reading.specs.Orders.{in_list_order}
use Rattle.reading.specs.Marks.{uses_marks, roles_marks, telling}
use Rattle.reading.specs.Verdict.{answered}
use Rattle.reading.specs.Outcome.{Lent, ended, told, outcome, gave}
use Rattle.reading.proofs.Spread.{length_marks, length-roles}
use Rattle.reading.proofs.Checks.{Passed, passed, inside}
use Rattle.reading.proofs.Given.{outcome-read, given-passes, given-read}
use Rattle.demands.proofs.Taken.{taken-inside}
use Rattle.held.specs.Listed.{counted_rows}
use Rattle.held.proofs.Listed.{counted-taken, counted-rank}
use Rattle.confirmed.specs.Confirmed.{confirmed, confirmed_marks, confirms, IsPage, GivesPage, given, Certain, CertainList}
use Rattle.confirmed.proofs.More.{more-confirms}
use Rattle.confirmed.proofs.Marks.{listed-confirmed}
use Rattle.confirmed.proofs.Misread.{one-misread-count}
use Rattle.confirmed.proofs.Unconfirmed.{gives_exactly}
use Rattle.confirmed.proofs.Means.{given-page, confirmed_means}

-- ---- pages as bytes and as symbols

module _ (n l : ℕ) where
  bytes-page : (page : List ℕ) → length page ≡ n * l → Below 256 page → IsPage n l (symbols n l page)
  bytes-page page size b = record { size = length_symbols n l page; symbols = symbols_below n l page size b }

  pub cut-back : (page : List ℕ) → IsPage n l page → symbols n l (flat l page) ≡ page
  unfolding symbols
  cut-back page p = ap (λ (m : ℕ). numbers l m (flat l page)) (sym p.size) ∙ numbers-flat l page p.symbols

  page-bytes : (page : List ℕ) → IsPage n l page → length (flat l page) ≡ n * l
  page-bytes page p = length-flat l page ∙ ap (λ (m : ℕ). m * l) p.size

-- ---- an outcome that gave a page

module _ (n l : ℕ) (list : List ℕ) (lent : Lent) (e : gave (outcome n l list lent) ≡ true) where
  abbrev rows : List ℕ
  rows = counted_rows l list

  abbrev entries : List ℕ
  entries = entries_of l list

  abbrev order : List ℕ
  order = in_list_order entries

  P : Passed n l list lent
  P = passed n l list lent (given-passes in_list_order n l list lent e)

  -- no row that counts has a stray bit
  pub list_inside : Below (2 ^ n) (map (constraint l) (counted_rows l list))
  list_inside = rw (counted-taken l list) at (taken-inside n l entries (unfold rows_of in inside n l list lent P) order)

  pub list_gives : GivesPage n l (counted_rows l list)
  list_gives = rw (counted-taken l list) at ((gives_exactly n l entries order lent).0 (ap gave (sym (outcome-read in_list_order n l list lent (given-passes in_list_order n l list lent e))) ∙ e))

  list_solved : outcome n l list lent ≡ told (answered (given n l rows)) n l entries order lent
  list_solved =
      outcome-read in_list_order n l list lent (given-passes in_list_order n l list lent e) ∙ (given-read in_list_order n l list lent e).solves
      ∙ ap (λ (rs : List ℕ). told (answered (given n l rs)) n l entries order lent) (counted-taken l list)

  -- its page
  pub list-page : take (n * l) (outcome n l list lent).lent.page ≡ flat l (given n l (counted_rows l list))
  list-page =
      ap (λ o. take (n * l) o.lent.page) list_solved
      ∙ unfold told ended in take-over (flat l (given n l rows)) lent.page (n * l) (page-bytes n l (given n l rows) (given-page n l rows))

  -- and that it is confirmed
  pub list-confirms : confirms (row_count l list) (outcome n l list lent) ≡ confirmed n (counted_rows l list)
  unfolding confirms
  list-confirms =
      ap (λ o. confirmed_marks (take (row_count l list) o.lent.roles) (take (row_count l list) o.lent.uses)) list_solved
      ∙ unfold told ended in ap₂ confirmed_marks (take-over (roles_marks telling n l entries order) lent.roles (row_count l list) (length-roles telling n l list order))
      (take-over (uses_marks l entries order) lent.uses (row_count l list) (length_marks l list order))
      ∙ listed-confirmed n l entries ∙ ap (confirmed n) (counted-taken l list)

  -- ---- the laws

  -- with a rank over n it always is
  pub list-more-confirms : n < rank (rows_of l list) → confirms (row_count l list) (outcome n l list lent) ≡ true
  list-more-confirms h = list-confirms ∙ more-confirms n rows (rw (← counted-rank l list) at h) list_gives.chosen

  -- confirmed, and one row that counts misread at most: the page is the one that was sent
  pub list-one-misread : confirms (row_count l list) (outcome n l list lent) ≡ true → CertainList n l list (outcome n l list lent)
  list-one-misread c page size b one =
      list-page ∙ ap (flat l) (one-misread-count n l rows list_inside list_gives (sym list-confirms ∙ c) (symbols n l page) (bytes-page n l page size b) one)
      ∙ flat-symbols n l page size b

  -- and confirmed is what it is exactly when this holds
  pub list-confirmed_means : (confirms (row_count l list) (outcome n l list lent) ≡ true) ↔ CertainList n l list (outcome n l list lent)
  list-confirmed_means = (list-one-misread, λ only. list-confirms ∙ (confirmed_means n l rows (shape_range n l P.shaped).l_low list_inside list_gives).1 (certain only))
    where
      certain : CertainList n l list (outcome n l list lent) → Certain n l rows
      certain only page p one =
          sym (cut-back n l (given n l rows) (given-page n l rows))
          ∙ ap (symbols n l) (sym list-page ∙ only (flat l page) (page-bytes n l page p) (flat_below l page) (rw (cut-back n l page p) one))
          ∙ cut-back n l page p
