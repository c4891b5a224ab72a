-- The marks of a reading in list order, over the whole list, repeats included: values by kept place, spread over the arrivals. That a reading marks so is
-- proved (proofs/Listed).
use Rattle.std.specs.Prelude.{ℕ, Bool, true, false, not, ◌&&◌, List, [], ◌∷◌, map}
use Rattle.space.specs.Lists.{select}
use Rattle.rows.specs.Rows.{vector, entries_of, rows_of}
use Rattle.reading.specs.Reading.{kept, uses, picked}
use Rattle.reading.specs.Orders.{counts}

-- For each arrival number: the value at its kept place, or d where the row is not kept.
unfoldable pub spread : ℕ → List Bool → List ℕ → List ℕ
spread d [] vs = []
spread d (false ∷ ks) vs = d ∷ spread d ks vs
spread d (true ∷ ks) [] = d ∷ spread d ks []
spread d (true ∷ ks) (v ∷ vs) = v ∷ spread d ks vs

-- Where both of two marks stand, place by place.
unfoldable pub both_marked : List Bool → List Bool → List Bool
both_marked [] cs = []
both_marked (b ∷ bs) [] = []
both_marked (b ∷ bs) (c ∷ cs) = (b && c) ∷ both_marked bs cs

-- "the rows not kept", those that count: "A row equal to an earlier list row .. adds to no uses".
unfoldable pub counted_others : ℕ → List ℕ → List ℕ
counted_others l entries = select (both_marked (counts entries) (map not (kept (map (vector l) entries)))) (map (vector l) entries)

-- Of a list of bytes, the rows that count.
abbrev pub counted_rows : ℕ → List ℕ → List ℕ
counted_rows l list = select (counts (entries_of l list)) (rows_of l list)

-- The marks of rows that all count.
unfoldable pub listed_uses : List ℕ → List ℕ
listed_uses rows = spread 65535 (kept rows) (uses rows)

unfoldable pub listed_roles : (Bool → ℕ) → ℕ → List ℕ → List ℕ
listed_roles role n rows = spread 0 (kept rows) (map role (picked n rows))
