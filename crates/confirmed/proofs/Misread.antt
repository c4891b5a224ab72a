-- A confirmed page stands against one misread row: a row that uses a kept row agrees, with all of its set but one, and so the one agrees too.
-- Assumes nothing.
use mathlib.Core.Path.{◌≡◌, refl, sym, ◌∙◌}
use Prim.Native.Nat.{ℕ, suc, ◌+◌, ◌^◌, ◌≤◌, ◌<◌}
use native.Mathlib.Omega.{arith}
use mathlib.Core.Bool.{Bool, true, false, cond, not, true≢false}
use mathlib.Core.List.{List, ◌∷◌, ◌++◌, map, Memᴰ}
use lib.Dec.{leb}
use lib.ListN.{length, get_or}
use borrow.Author.Tests.{leb-true}
use Rattle.space.specs.Lists.{count, All, Below}
use Rattle.space.specs.Space.{sum_of, spans, set_of}
use Rattle.space.proofs.Lists.{all_at, all_mono}
use Rattle.space.proofs.Sets.{set_of-sum}
use Rattle.rows.specs.Rows.{constraint, agrees}
use Rattle.reading.specs.Reading.{kept, kept_rows, other_rows, rank, uses_of, uses, picked, picked_rows}
use Rattle.reading.proofs.Kept.{length-kept, others_span}
use Rattle.reading.proofs.Pick.{length-uses}
use Rattle.reading.proofs.Page.{page_only}
use Rattle.confirmed.specs.Confirmed.{confirmed, misread, IsPage, GivesPage, given, Certain}
use Rattle.confirmed.proofs.Counts.{pass_none, some-passes, count_at, count-append, count_split}
use Rattle.confirmed.proofs.Masks.{tabulate_at, select_along}
use Rattle.confirmed.proofs.Agreeing.{misread_is, agrees_not, none_misread, sum-misread}
use Rattle.confirmed.proofs.More.{confirmed_exactly}

-- the uses at a kept place
pub uses_at_lem : (rows : List ℕ) (j : ℕ) → j < rank rows → get_or (uses rows) j 0 ≡ count (λ r. get_or (set_of (kept_rows rows) r) j false) (other_rows rows)
unfolding uses uses_of rank
uses_at_lem rows j h = tabulate_at (length (kept_rows rows)) _ j h

-- ---- with one misread row at most, a kept row that has a use agrees

-- the misread rows, kept or not
pub shares : (l : ℕ) (page rows : List ℕ) → count (misread l page) rows ≡ count (misread l page) (kept_rows rows) + count (misread l page) (other_rows rows)
unfolding kept_rows other_rows
shares l page rows = count_split (misread l page) (kept rows) rows (length-kept rows)

module _ (l : ℕ) (page rows : List ℕ) (one : count (misread l page) rows ≤ 1) where
  used-agrees : (j : ℕ) → j < rank rows → 1 ≤ get_or (uses rows) j 0 → agrees l page (get_or (kept_rows rows) j 0) ≡ true
  used-agrees j h u = go (agrees l page (get_or (kept_rows rows) j 0)) refl
    where
      user : (r : ℕ) × Memᴰ r (other_rows rows) × (get_or (set_of (kept_rows rows) r) j false ≡ true)
      user = some-passes (λ r. get_or (set_of (kept_rows rows) r) j false) (other_rows rows) (rw (uses_at_lem rows j h) at u)

      place : j < length (kept_rows rows)
      place = unfold rank in h

      sum : sum_of (kept_rows rows) (set_of (kept_rows rows) user.0) ≡ user.0
      sum = set_of-sum (kept_rows rows) user.0 (all_at (spans (kept_rows rows)) (other_rows rows) (others_span rows) user.0 user.1)

      go : (c : Bool) → agrees l page (get_or (kept_rows rows) j 0) ≡ c → agrees l page (get_or (kept_rows rows) j 0) ≡ true
      go true e = e
      go false e = absurd (true≢false (sym good ∙ bad))
        where
          there : 1 ≤ count (misread l page) (kept_rows rows)
          there = count_at (misread l page) (kept_rows rows) j place (misread_is l page (get_or (kept_rows rows) j 0) e)

          good : agrees l page user.0 ≡ true
          good = all_at (agrees l page) (other_rows rows) (none_misread l page (other_rows rows) (omega (arith, one, there, shares l page rows))) user.0 user.1

          bad : agrees l page user.0 ≡ false
          bad = rw sum at (sum-misread l page (kept_rows rows) (set_of (kept_rows rows) user.0) j place user.2 e (omega (arith, one, shares l page rows)))

  confirmed-agree : (n : ℕ) → confirmed n rows ≡ true → All (agrees l page) (picked_rows n rows)
  unfolding picked_rows
  confirmed-agree n sure =
      select_along (leb 1) (agrees l page) (picked n rows) (uses rows) (kept_rows rows) (length-uses rows ∙ unfold rank in refl)
      (λ j h t. used-agrees j (unfold rank in h) (leb-true 1 (get_or (uses rows) j 0) t)) ((confirmed_exactly n rows).0 sure)

-- ---- the page

-- a page that the picked rows agree with is the one given
pub agreed_page : (n l : ℕ) (rows page : List ℕ) → Below (2 ^ n) (map (constraint l) rows) → GivesPage n l rows → IsPage n l page
    → All (agrees l page) (picked_rows n rows) → given n l rows ≡ page
agreed_page n l rows page inside g p a = page_only n l rows inside g.chosen page (record { size = p.size; symbols = p.symbols; all = a })

-- one row misread at most
pub one-misread-count : (n l : ℕ) (rows : List ℕ) → Below (2 ^ n) (map (constraint l) rows) → GivesPage n l rows → confirmed n rows ≡ true → Certain n l rows
one-misread-count n l rows inside g sure page p one = agreed_page n l rows page inside g p (confirmed-agree l page rows one n sure)

-- all rows agree but b, whatever b is
pub all_but_one : (l : ℕ) (before : List ℕ) (b : ℕ) (after page : List ℕ) → All (agrees l page) before → All (agrees l page) after
    → count (misread l page) (before ++ b ∷ after) ≤ 1
all_but_one l before b after page good more = omega (arith, count-append (misread l page) before (b ∷ after), clean before good, whole)
  where
    clean : (rows : List ℕ) → All (agrees l page) rows → count (misread l page) rows ≡ 0
    clean rows a = pass_none (misread l page) rows (all_mono (agrees l page) (λ r. not (misread l page r)) (agrees_not l page) rows a)

    last : (c : Bool) → count (misread l page) after ≡ 0 → cond c (suc (count (misread l page) after)) (count (misread l page) after) ≤ 1
    last true e = omega arith
    last false e = omega arith

    whole : count (misread l page) (b ∷ after) ≤ 1
    whole = unfold count in last (misread l page b) (clean after more)

pub one-misread : (n l : ℕ) (before : List ℕ) (b : ℕ) (after page : List ℕ) → Below (2 ^ n) (map (constraint l) (before ++ b ∷ after))
    → GivesPage n l (before ++ b ∷ after) → confirmed n (before ++ b ∷ after) ≡ true
    → IsPage n l page → All (agrees l page) before → All (agrees l page) after → given n l (before ++ b ∷ after) ≡ page
one-misread n l before b after page inside g sure p good more =
    one-misread-count n l (before ++ b ∷ after) inside g sure page p (all_but_one l before b after page good more)
