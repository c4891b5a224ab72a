-- Of the readings worked by hand, those that give a page: K4, K7 and K9 are confirmed; K2 and K6 are not, though every row agrees. And rows of which
-- the laws' hypotheses hold. By computing.
-- Assumes nothing.
use mathlib.Core.Path.{◌≡◌, refl}
use mathlib.Core.Bool.{true, false}
use mathlib.Core.List.{[], ◌∷◌, map}
use Rattle.space.specs.Lists.{select, marked, count, tabulate}
use Rattle.space.specs.Space.{◌⊕◌, sum_by, spans, set_of}
use Rattle.octets.specs.Octets.{number, bytes, numbers, flat}
use Rattle.rows.specs.Rows.{constraint, payload, agrees, row_count, entries_of, vector, entered, rows_of}
use Rattle.reading.specs.Reading.{kept_after, kept, kept_rows, other_rows, rank, uses_of, uses, picks, picked}
use Rattle.reading.specs.Orders.{among, counts_after, counts}
use Rattle.reading.specs.Worked.{k2, k4, k6, k7, k9, list_of}
use Rattle.held.specs.Listed.{spread, counted_rows, listed_uses}
use Rattle.confirmed.specs.Confirmed.{confirmed, Enough, Unused}

pub worked_confirmed : map (λ k. confirmed k.n (counted_rows 1 (list_of k))) (k2 ∷ k4 ∷ k6 ∷ k7 ∷ k9 ∷ []) ≡ false ∷ true ∷ false ∷ true ∷ true ∷ []
unfolding confirmed list_of entered counts counts_after among picked picks uses uses_of other_rows kept_rows kept kept_after rows_of entries_of vector row_count number bytes numbers flat select count tabulate spans set_of ◌⊕◌
worked_confirmed = refl

-- K6: the row (1, 7) before (0, 0)
worked_unused : Unused [] 263 (0 ∷ [])
unfolding listed_uses spread uses uses_of other_rows kept_rows kept kept_after select count tabulate spans set_of ◌⊕◌
worked_unused = refl

-- (1, 9), (1, 5), (1, 9), (1, 5), (1, 5): of the page 5 two rows are misread, and (1, 5) has two uses
worked_enough : Enough 1 1 (265 ∷ 261 ∷ 265 ∷ 261 ∷ 261 ∷ []) (5 ∷ []) 2
unfolding rank uses uses_of kept_rows other_rows kept kept_after spans set_of select marked count tabulate constraint payload sum_by agrees ◌⊕◌
worked_enough = record { these = false ∷ true ∷ []; size = refl; number = refl; agree = (refl, tt); used = (refl, tt) }
