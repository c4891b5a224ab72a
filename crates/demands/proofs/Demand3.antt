-- Demand 3, in any order that goes by constraints: with a second page added to every row, a list that passes the checks is read the same, and its page
-- has the second page added.
-- Assumes nothing.
use mathlib.Core.Path.{◌≡◌, refl, sym, ap, ◌∙◌}
use Prim.Native.Nat.{ℕ, ◌*◌, ◌^◌}
use mathlib.Core.Bool.{Bool, true, false, cond}
use mathlib.Core.List.{List, [], map}
use lib.Dec.{eqb}
use lib.ListN.{length, take}
use Rattle.space.specs.Lists.{Below}
use Rattle.octets.specs.Octets.{flat, over, xor_bytes}
use Rattle.octets.proofs.Xors.{length-xor_bytes}
use Rattle.octets.proofs.Runs.{length-flat, take-over, over-over}
use Rattle.rows.specs.Rows.{symbols, vector, entries_of, rows_of, constraint}
use Rattle.rows.specs.Shift.{shifted_entry, shifted_list, plus}
use Rattle.rows.proofs.Pages.{length_symbols, symbols_below, flat-symbols}
use Rattle.rows.proofs.Shifts.{flat-plus, entries-shifted_list}
use Rattle.reading.specs.declared.Answer.{Answer}
use Rattle.reading.specs.declared.Answer.TheVariants as answer
use Rattle.reading.specs.Answer.{answer_numbers}
use Rattle.reading.specs.Reading.{rank, picked_rows, page_of, agreement, few, tie, singular}
use Rattle.reading.specs.Orders.{taken, ByConstraints}
use Rattle.reading.specs.Marks.{plain, telling}
use Rattle.reading.specs.Verdict.{Verdict, too_few, tied, dependent, answered, verdict}
use Rattle.reading.specs.Outcome.{Lent, checks, passes, ended, told, read, outcome_in, gave}
use Rattle.reading.specs.Added.{added, added_verdict}
use Rattle.reading.proofs.Page.{length-page_of}
use Rattle.reading.proofs.Checks.{Passed, passed, inside, checks-shifted}
use Rattle.reading.proofs.Given.{outcome-read}
use Rattle.demands.proofs.Taken.{taken-inside}
use Rattle.demands.proofs.Moved.{same_rank, verdict-moved, agreement-moved}
use Rattle.demands.proofs.Shifted.{shifted-order, shifted-taken, uses-moved, roles-moved}

-- a page that is answered has n symbols
page-size : (n l : ℕ) (rows page : List ℕ) → verdict n l rows ≡ answered page → length page ≡ n
unfolding verdict
page-size n l rows page e = go (few n rows) (tie n rows) (singular n l rows) e
  where
    size : Verdict → ℕ
    size too_few = n
    size tied = n
    size dependent = n
    size (answered p) = length p

    go : (f t s : Bool) → cond f too_few (cond t tied (cond s dependent (answered (page_of n l (picked_rows n rows))))) ≡ answered page → length page ≡ n
    go true t s e = sym (ap size e)
    go false true s e = sym (ap size e)
    go false false true e = sym (ap size e)
    go false false false e = sym (ap size e) ∙ length-page_of n l (picked_rows n rows)

-- ---- of entries, taken in an order

module _ (n l : ℕ) (q : List ℕ) (size : length q ≡ n) (b : Below (2 ^ (8 * l)) q) (entries order : List ℕ)
    (clean : Below (2 ^ n) (map (constraint l) (map (vector l) entries))) (second : List ℕ) (spelled : flat l q ≡ second) (lent : Lent) where
  abbrev moved : List ℕ
  moved = map (shifted_entry l q) entries

  within : Below (2 ^ n) (map (constraint l) (taken l entries order))
  within = taken-inside n l entries clean order

  rank-stays : rank (taken l moved order) ≡ rank (taken l entries order)
  rank-stays = rw (shifted-taken l q b entries order) (same_rank n l q size b (taken l entries order) within)

  ended-stays : (a : Answer) (role : Bool → ℕ) (page : List ℕ) → ended n l moved order lent a role page ≡ ended n l entries order lent a role page
  unfolding ended
  ended-stays a role page = rw (uses-moved l q b entries order, roles-moved l q b entries order role n)

  refused-stays : (a : Answer) (role : Bool → ℕ) → eqb (answer_numbers a).number 0 ≡ false → ended n l moved order lent a role [] ≡ added second (ended n l entries order lent a role [])
  refused-stays a role e = ended-stays a role [] ∙ unfold added gave ended in rw e

  page-bytes : (page : List ℕ) → length page ≡ n → (room : List ℕ)
      → over (flat l (plus page q)) room ≡ over (xor_bytes (take (length second) (over (flat l page) room)) second) (over (flat l page) room)
  page-bytes page e room =
      rw (flat-plus l page q (e ∙ sym size), spelled, take-over (flat l page) room (length second) same)
      (sym (over-over (xor_bytes (flat l page) second) (flat l page) room (length-xor_bytes (flat l page) second same)))
    where
      same : length (flat l page) ≡ length second
      same = length-flat l page ∙ ap (λ (m : ℕ). m * l) (e ∙ sym size) ∙ sym (length-flat l q) ∙ ap length spelled

  told_moved : (v : Verdict) → verdict n l (taken l entries order) ≡ v → told (added_verdict q v) n l moved order lent ≡ added second (told v n l entries order lent)
  unfolding told added_verdict
  told_moved too_few e = rw rank-stays (unfold answer_numbers in refused-stays (answer.Few (rank (taken l entries order))) plain refl)
  told_moved tied e = rw rank-stays (unfold answer_numbers in refused-stays (answer.Tie (rank (taken l entries order))) plain refl)
  told_moved dependent e = rw rank-stays (unfold answer_numbers in refused-stays (answer.Singular (rank (taken l entries order))) telling refl)
  told_moved (answered page) e =
      rw (rank-stays, shifted-taken l q b entries order, agreement-moved n l q size b (taken l entries order) within page sized)
      (ended-stays (answer.Page (rank (taken l entries order)) (agreement l page (taken l entries order))) telling (flat l (plus page q))
      ∙ unfold added gave ended answer_numbers in rw (page-bytes page sized lent.page))
    where
      sized : length page ≡ n
      sized = page-size n l (taken l entries order) page e

  pub read-moved : read n l (map (shifted_entry l q) entries) order lent ≡ added second (read n l entries order lent)
  unfolding read
  read-moved = rw (shifted-taken l q b entries order, verdict-moved n l q size b (taken l entries order) within) (told_moved (verdict n l (taken l entries order)) refl)

-- ---- of lists of bytes

pub demand_3 : (order : List ℕ → List ℕ) (n l : ℕ) → ByConstraints l order → (list : List ℕ) (lent : Lent) → Below 256 list → checks n l list lent ≡ passes
    → (second : List ℕ) → length second ≡ n * l → Below 256 second
    → outcome_in order n l (shifted_list l (symbols n l second) list) lent ≡ added second (outcome_in order n l list lent)
demand_3 order n l by list lent bytes p second size b =
    outcome-read order n l (shifted_list l q list) lent (checks-shifted n l q q_below list lent passing bytes ∙ p)
    ∙ rw (entries-shifted_list l q q_below list bytes, shifted-order l q q_below (entries_of l list) order by)
    (read-moved n l q (length_symbols n l second) q_below (entries_of l list) (order (entries_of l list)) (unfold rows_of in inside n l list lent passing) second (flat-symbols n l second size b) lent)
    ∙ ap (added second) (sym (outcome-read order n l list lent p))
  where
    q : List ℕ
    q = symbols n l second

    passing : Passed n l list lent
    passing = passed n l list lent p

    q_below : Below (2 ^ (8 * l)) q
    q_below = symbols_below n l second size b
