-- "The camera sees a held frame thirty times, so one misread can outvote a good page": of page 5, a frame misread as 9 that is caught three times, and two read
-- right. With repeats counted the page would be 9; it is 5. By computing.
-- Assumes nothing.
use mathlib.Core.Path.{◌≡◌, refl}
use mathlib.Core.List.{[], ◌∷◌, map}
use Rattle.space.specs.Lists.{select, marked, count, tabulate}
use Rattle.space.specs.Space.{◌⊕◌, sum_of, spans, set_of, independent}
use Rattle.rows.specs.Rows.{vector, entered, constraint, payload}
use Rattle.reading.specs.Reading.{kept_after, kept, kept_rows, other_rows, rank, uses_of, uses, picks, picked, picked_rows, symbol, page_of, few, tie, singular}
use Rattle.reading.specs.Orders.{arrivals, among, counts_after, counts, taken, in_list_order}
use Rattle.reading.specs.Verdict.{answered, verdict}
use Rattle.held.specs.Held.{held_misread}

pub repeats-counted : verdict 1 1 (map (vector 1) held_misread) ≡ answered (9 ∷ [])
unfolding held_misread entered vector verdict few tie singular rank kept_rows kept kept_after other_rows uses_of uses picks picked picked_rows symbol page_of constraint payload select marked count tabulate sum_of spans set_of independent ◌⊕◌
repeats-counted = refl

pub held-once : verdict 1 1 (taken 1 held_misread (in_list_order held_misread)) ≡ answered (5 ∷ [])
unfolding held_misread entered vector arrivals among counts_after counts taken in_list_order verdict few tie singular rank kept_rows kept kept_after other_rows uses_of uses picks picked picked_rows symbol page_of constraint payload select marked count tabulate sum_of spans set_of independent ◌⊕◌
held-once = refl
