-- Demand 2, in any order that takes each row that counts once: "A list that passes the checks, and whose rows all agree with one page, gives that page
-- whenever its rank reaches the number of symbols." The rank is that of the whole list, and the agreement the number of rows that count. Rows
-- that agree with one page are as independent as their constraints, so the rank can't exceed n; then all kept rows are picked, and the page is the
-- only one that they agree with. (What reading/proofs/Pick and Page say of the pick and the page, they say of any rows, so of the rows taken in
-- any order.)
-- Assumes nothing.
use mathlib.Core.Path.{◌≡◌, ◌∙◌}
use Prim.Native.Nat.{ℕ, ◌*◌, ◌^◌, ◌≤◌}
use native.Mathlib.Omega.{arith}
use mathlib.Core.Bool.{true, false}
use mathlib.Core.List.{List, map}
use lib.ListN.{length, get_or, length-map}
use Rattle.space.specs.Lists.{marked, All, Below}
use Rattle.space.specs.Space.{independent}
use Rattle.space.proofs.Lists.{select-all, select-map, select_below, count-all}
use Rattle.space.proofs.Dimension.{independent-most}
use Rattle.octets.specs.Octets.{flat}
use Rattle.rows.specs.Rows.{symbols, vector, entries_of, rows_of, constraint, agrees}
use Rattle.rows.proofs.Pages.{length_symbols, symbols_below, flat-symbols, agree-independent}
use Rattle.reading.specs.declared.Answer.TheVariants as answer
use Rattle.reading.specs.Reading.{kept, kept_rows, rank, picked_rows, page_of, agreement, singular}
use Rattle.reading.specs.Orders.{counts, taken, Takes}
use Rattle.reading.specs.Marks.{telling}
use Rattle.reading.specs.Verdict.{answered, verdict}
use Rattle.reading.specs.Outcome.{Lent, checks, passes, ended, told, read, outcome_in}
use Rattle.reading.proofs.Kept.{kept-independent}
use Rattle.reading.proofs.Pick.{all-picked, no_tie, not_few, picked-inside, picked-size}
use Rattle.reading.proofs.Page.{page_unique}
use Rattle.reading.proofs.Checks.{passed, inside}
use Rattle.reading.proofs.Given.{outcome-read}
use Rattle.demands.proofs.Taken.{taken-inside, taken-agree}
use Rattle.demands.proofs.Any.{rank-any, order-length}

-- ---- of rows

module _ (n l : ℕ) (page : List ℕ) (size : length page ≡ n) (b : Below (2 ^ (8 * l)) page)
    (rows : List ℕ) (within : Below (2 ^ n) (map (constraint l) rows)) (agreed : All (agrees l page) rows) where
  kept_agreed : All (agrees l page) (kept_rows rows)
  unfolding kept_rows
  kept_agreed = select-all (agrees l page) (kept rows) rows agreed

  kept_free : independent (map (constraint l) (kept_rows rows)) ≡ true
  kept_free = agree-independent l page b (kept_rows rows) kept_agreed ∙ kept-independent rows

  kept-within : Below (2 ^ n) (map (constraint l) (kept_rows rows))
  unfolding kept_rows
  kept-within = rw (← select-map (constraint l) (kept rows) rows) (select_below (2 ^ n) (kept rows) (map (constraint l) rows) within)

  -- the rank can't exceed n
  pub agreed_rank : rank rows ≤ n
  unfolding rank
  agreed_rank = omega (arith, independent-most n (map (constraint l) (kept_rows rows)) kept-within kept_free, length-map (kept_rows rows) (constraint l))

  module _ (enough : n ≤ rank rows) where
    pub agreed_full : rank rows ≡ n
    agreed_full = omega (arith, agreed_rank)

    picked_free : independent (map (constraint l) (picked_rows n rows)) ≡ true
    picked_free = rw (all-picked n rows agreed_full) kept_free

    not_singular : singular n l rows ≡ false
    unfolding singular
    not_singular = rw picked_free

    page-given : page_of n l (picked_rows n rows) ≡ page
    page-given =
        page_unique n l (picked_rows n rows) (picked-inside n l (2 ^ n) rows within) picked_free (picked-size n rows (no_tie n rows agreed_full)) page size
        (rw (all-picked n rows agreed_full) kept_agreed)

    pub agreed_verdict : verdict n l rows ≡ answered page
    unfolding verdict
    agreed_verdict = rw (not_few n rows agreed_full, no_tie n rows agreed_full, not_singular, page-given)

-- ---- of entries, taken in an order

module _ (n l : ℕ) (page : List ℕ) (size : length page ≡ n) (b : Below (2 ^ (8 * l)) page) (entries order : List ℕ) (takes : Takes entries order)
    (within : Below (2 ^ n) (map (constraint l) (map (vector l) entries))) (agreed : All (agrees l page) (map (vector l) entries))
    (enough : n ≤ rank (map (vector l) entries)) where
  abbrev rows : List ℕ
  rows = taken l entries order

  taken-within : Below (2 ^ n) (map (constraint l) rows)
  taken-within = taken-inside n l entries within order

  taken_agreed : All (agrees l page) rows
  taken_agreed = taken-agree l page entries agreed order

  reached : n ≤ rank rows
  reached = omega (arith, rank-any l entries order takes)

  all-agree : agreement l page rows ≡ marked (counts entries)
  unfolding agreement taken
  all-agree = count-all (agrees l page) rows taken_agreed ∙ length-map order (λ a. vector l (get_or entries a 0)) ∙ order-length entries order takes

  pub agreed_read : (lent : Lent) → read n l entries order lent ≡ ended n l entries order lent (answer.Page n (marked (counts entries))) telling (flat l page)
  unfolding read told
  agreed_read lent = rw (agreed_verdict n l page size b rows taken-within taken_agreed reached, agreed_full n l page size b rows taken-within taken_agreed reached, all-agree)

-- ---- of lists of bytes

pub demand_2 : (order : List ℕ → List ℕ) (n l : ℕ) (list : List ℕ) → Takes (entries_of l list) (order (entries_of l list)) → (lent : Lent) → checks n l list lent ≡ passes
    → (page : List ℕ) → length page ≡ n * l → Below 256 page
    → All (agrees l (symbols n l page)) (rows_of l list) → n ≤ rank (rows_of l list)
    → outcome_in order n l list lent
    ≡ ended n l (entries_of l list) (order (entries_of l list)) lent (answer.Page n (marked (counts (entries_of l list)))) telling page
unfolding rows_of
demand_2 order n l list takes lent p page size bytes agreed enough =
    outcome-read order n l list lent p
    ∙ agreed_read n l (symbols n l page) (length_symbols n l page) (symbols_below n l page size bytes) (entries_of l list) (order (entries_of l list)) takes
    (unfold rows_of in inside n l list lent (passed n l list lent p)) agreed enough lent
    ∙ rw (flat-symbols n l page size bytes)
