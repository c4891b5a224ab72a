-- The rank with one row more.
-- Assumes nothing.
use mathlib.Core.Path.{◌≡◌, ap, ◌∙◌}
use mathlib.Core.Bool.{true, false}
use mathlib.Core.List.{List, [], ◌∷◌, ◌++◌, append-nil}
use Prim.Native.Nat.{ℕ, suc}
use native.Mathlib.Numerals.{add-one}
use lib.ListN.{length, length-append}
use Rattle.space.specs.Space.{spans}
use Rattle.space.specs.Lists.{marked}
use Rattle.space.proofs.Lists.{length-select}
use Rattle.reading.specs.Reading.{kept, kept_rows, rank}
use Rattle.reading.proofs.Kept.{length-kept}
use Rattle.reading.proofs.OneMore.{kept_rows-snoc}

pub rank-other : (rows : List ℕ) (row : ℕ) → spans (kept_rows rows) row ≡ true → rank (rows ++ (row ∷ [])) ≡ rank rows
unfolding rank
rank-other rows row e =
    let same : kept_rows (rows ++ (row ∷ [])) ≡ kept_rows rows = kept_rows-snoc rows row ∙ rw e (append-nil (kept_rows rows)) in
    ap length same

pub rank-kept : (rows : List ℕ) (row : ℕ) → spans (kept_rows rows) row ≡ false → rank (rows ++ (row ∷ [])) ≡ suc (rank rows)
unfolding rank
rank-kept rows row e =
    let more : kept_rows (rows ++ (row ∷ [])) ≡ kept_rows rows ++ (row ∷ []) = kept_rows-snoc rows row ∙ rw e in
    ap length more ∙ length-append (kept_rows rows) (row ∷ []) ∙ add-one (length (kept_rows rows))

pub rank-marked : (rows : List ℕ) → rank rows ≡ marked (kept rows)
unfolding rank kept_rows
rank-marked rows = length-select (kept rows) rows (length-kept rows)
