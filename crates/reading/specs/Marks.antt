-- What a reading in some order marks, by arrival number. Document 01, "Answer numbers of a reading".
use Rattle.std.specs.Prelude.{ℕ, suc, Bool, cond, List, [], ◌∷◌, map, eqb, length}
use Rattle.space.specs.Lists.{select, tabulate}
use Rattle.reading.specs.Reading.{kept, rank, uses, picked}
use Rattle.reading.specs.Orders.{taken}

-- The value at the place that arrival a has among bs; d where it has none.
unfoldable pub value_of : ℕ → List ℕ → List ℕ → ℕ → ℕ
value_of d [] vs a = d
value_of d (b ∷ bs) [] a = d
value_of d (b ∷ bs) (v ∷ vs) a = cond (eqb a b) v (value_of d bs vs a)

-- For each of m arrivals.
unfoldable pub by_arrival : ℕ → ℕ → List ℕ → List ℕ → List ℕ
by_arrival d m bs vs = tabulate m (value_of d bs vs)

-- The arrival numbers of the kept rows, by kept place.
unfoldable pub kept_arrivals : ℕ → List ℕ → List ℕ → List ℕ
kept_arrivals l entries order = select (kept (taken l entries order)) order

-- Of each arrival its kept place and 1, or 0 where its row is not kept.
unfoldable pub places_given : ℕ → List ℕ → List ℕ → List ℕ
places_given l entries order = by_arrival 0 (length entries) (kept_arrivals l entries order) (tabulate (rank (taken l entries order)) suc)

-- "the first m uses (the count for a kept row, 65535 for another)".
unfoldable pub uses_marks : ℕ → List ℕ → List ℕ → List ℕ
uses_marks l entries order = by_arrival 65535 (length entries) (kept_arrivals l entries order) (uses (taken l entries order))

-- "the first m roles (0 not kept, 1 kept, 2 picked; no 2 under 5 and 6)".
abbrev pub plain : Bool → ℕ
plain b = 1

abbrev pub telling : Bool → ℕ
telling b = cond b 2 1

unfoldable pub roles_marks : (Bool → ℕ) → ℕ → ℕ → List ℕ → List ℕ → List ℕ
roles_marks role n l entries order = by_arrival 0 (length entries) (kept_arrivals l entries order) (map role (picked n (taken l entries order)))
