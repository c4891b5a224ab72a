-- The table, K1 to K12 and two of them with a row held, under one theorem: every case, whatever the lent buffers hold, as long as they have room. By computing.
-- Assumes nothing.
use mathlib.Core.Path.{◌≡◌, refl, ◌∙◌}
use mathlib.Core.Bool.{Bool, true, ◌&&◌}
use mathlib.Core.List.Memᴰ
use mathlib.Core.List.{List, [], ◌∷◌, map, Memᴰ, head-eq_of_cons-eq, tail-eq_of_cons-eq}
use mathlib.Core.Logic.{◌⊎◌, inl, inr}
use lib.ListN.{length, length-map}
use Rattle.space.specs.Lists.{select, marked, count, tabulate}
use Rattle.space.specs.Space.{◌⊕◌, sum_of, sum_by, spans, set_of, independent}
use Rattle.space.proofs.Both.{both}
use Rattle.octets.specs.Octets.{number, bytes, numbers, flat, over}
use Rattle.rows.specs.Rows.{shape, row_count, entries_of, vector, entered, rows_of, constraint, payload, agrees}
use Rattle.rows.proofs.Lists.{row_count-flat}
use Rattle.reading.specs.Answer.{answer_numbers}
use Rattle.reading.specs.Reading.{kept_after, kept, kept_rows, other_rows, rank, uses_of, uses, picks, picked, picked_rows, symbol, page_of, agreement, few, tie, singular}
use Rattle.reading.specs.Orders.{arrivals, among, counts_after, counts, taken, in_list_order}
use Rattle.reading.specs.Marks.{value_of, by_arrival, kept_arrivals, uses_marks, roles_marks}
use Rattle.reading.specs.Verdict.{verdict}
use Rattle.reading.specs.Outcome.{Lent, whole_rows, roomy, stray_from, checks, ended, told, read, after, outcome_in, outcome, whole_length}
use Rattle.reading.specs.Worked.{Case, cases, entry_for, list_of, Seen, seen, expected}

-- the list of a case has whole rows, few enough
sound : Case → Bool
sound c = shape c.n 1 && whole_rows 1 (list_of c)

-- and is read, once the room is known to be there
run : Lent → Case → Seen
run lent c = seen (after (stray_from c.n 1 0 (rows_of 1 (list_of c))) c.n 1 (entries_of 1 (list_of c)) (in_list_order (entries_of 1 (list_of c))) lent)

all_sound : map sound cases ≡ map (λ c. true) cases
unfolding sound shape whole_length list_of row_count flat bytes
all_sound = refl

computed : (lent : Lent) → map (run lent) cases ≡ map (expected lent) cases
unfolding run expected seen list_of entered after stray_from read told ended verdict answer_numbers uses_marks roles_marks kept_arrivals by_arrival value_of taken in_list_order arrivals counts counts_after among few tie singular agreement page_of symbol picked_rows picked picks uses uses_of rank other_rows kept_rows kept kept_after rows_of entries_of vector row_count constraint payload sum_by agrees number bytes numbers flat over select marked count tabulate sum_of spans set_of independent ◌⊕◌
computed lent = refl

-- what holds of two tables holds of each case
each : {A : Type 0} (f g : Case → A) (cs : List Case) → map f cs ≡ map g cs → (c : Case) → Memᴰ c cs → f c ≡ g c
each f g [] e c m = absurd (Memᴰ.not-nil m)
each f g (x ∷ cs) e c m = go (Memᴰ.cases_cons m) (each f g cs (tail-eq_of_cons-eq e) c)
  where
    go : (c ≡ x) ⊎ Memᴰ c cs → (Memᴰ c cs → f c ≡ g c) → f c ≡ g c
    go (inl p) ih = rw p (head-eq_of_cons-eq e)
    go (inr k) ih = ih k

pub worked : (c : Case) → Memᴰ c cases → (lent : Lent) → roomy c.n 1 (length c.rows) lent ≡ true
    → seen (outcome c.n 1 (list_of c) lent) ≡ expected lent c
unfolding outcome_in checks
worked c m lent room =
    rw (both (shape c.n 1) (whole_rows 1 (list_of c)) fits).0 (rw (both (shape c.n 1) (whole_rows 1 (list_of c)) fits).1
    (rw count (rw room (unfold run in each (run lent) (expected lent) cases (computed lent) c m))))
  where
    fits : (shape c.n 1 && whole_rows 1 (list_of c)) ≡ true
    fits = unfold sound in each sound (λ c. true) cases all_sound c m

    count : row_count 1 (list_of c) ≡ length c.rows
    count = unfold list_of in row_count-flat 1 (map entry_for c.rows) ∙ length-map c.rows entry_for
