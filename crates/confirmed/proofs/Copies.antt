-- Of a held frame, that stands in the list more than once: each copy misread alike, as an entry that stands nowhere else in the list, with the same constraint.
-- Where its row is kept and has no use, and the rank is n, only the page tells the two outcomes apart, and the pages differ.
-- Assumes nothing.
use mathlib.Core.Path.{◌≡◌, ap, ap₂, ◌∙◌}
use Prim.Native.Nat.{ℕ, ◌*◌}
use mathlib.Core.Bool.{Bool, true, false}
use mathlib.Core.List.{List, ◌∷◌, ◌++◌, map}
use lib.ListN.{length, take}
use Rattle.space.specs.Lists.{select}
use Rattle.space.proofs.Lists.{map-append, select-map}
use Rattle.rows.specs.Rows.{vector, entries_of, rows_of, constraint}
use Rattle.reading.specs.Reading.{rank}
use Rattle.reading.specs.Orders.{among, counts}
use Rattle.reading.specs.Outcome.{Lent, outcome, gave}
use Rattle.held.specs.Listed.{counted_rows}
use Rattle.held.specs.Held.{replaced}
use Rattle.held.proofs.Each.{each_counts}
use Rattle.held.proofs.Replaced.{replaced-counts, replaced-once}
use Rattle.confirmed.specs.Confirmed.{Unused, Untold}
use Rattle.confirmed.proofs.Alike.{list_unconfirmed, list-other-page}

module _ (n l : ℕ) (list : List ℕ) (lent : Lent) (e : gave (outcome n l list lent) ≡ true) (full : rank (rows_of l list) ≡ n)
    (before : List ℕ) (d : ℕ) (after : List ℕ) (are : select (counts (entries_of l list)) (entries_of l list) ≡ before ++ d ∷ after)
    (u : Unused (map (vector l) before) (vector l d) (map (vector l) after))
    (other : ℕ) (same : constraint l (vector l other) ≡ constraint l (vector l d)) (nowhere : among (entries_of l list) other ≡ false)
    (new : List ℕ) (size : length new ≡ length list) (copies : entries_of l new ≡ map (replaced d other) (entries_of l list)) where
  abbrev entries : List ℕ
  entries = entries_of l list

  alike : counts (entries_of l new) ≡ counts entries
  alike = ap counts copies ∙ replaced-counts d other entries nowhere

  old-rows : counted_rows l list ≡ map (vector l) before ++ vector l d ∷ map (vector l) after
  unfolding rows_of
  old-rows = select-map (vector l) (counts entries) entries ∙ ap (map (vector l)) are ∙ map-append (vector l) before (d ∷ after)

  one : map (replaced d other) (before ++ d ∷ after) ≡ before ++ other ∷ after
  one = replaced-once d other before after (rw are at (each_counts entries))

  new-rows : counted_rows l new ≡ map (vector l) before ++ vector l other ∷ map (vector l) after
  unfolding rows_of
  new-rows =
      ap₂ (λ (cs : List Bool) (es : List ℕ). select cs (map (vector l) es)) alike copies
      ∙ select-map (vector l) (counts entries) (map (replaced d other) entries)
      ∙ ap (map (vector l)) (select-map (replaced d other) (counts entries) entries ∙ ap (map (replaced d other)) are ∙ one)
      ∙ map-append (vector l) before (other ∷ after)

  pub copies_unconfirmed : Untold (outcome n l list lent) (outcome n l new lent)
  copies_unconfirmed =
      list_unconfirmed n l list lent e full (map (vector l) before) (vector l d) (map (vector l) after) old-rows u (vector l other) same new size alike new-rows

  -- only the same row gives the same page
  pub copies_other_page : take (n * l) (outcome n l new lent).lent.page ≡ take (n * l) (outcome n l list lent).lent.page → vector l other ≡ vector l d
  copies_other_page =
      list-other-page n l list lent e full (map (vector l) before) (vector l d) (map (vector l) after) old-rows u (vector l other) same new size alike new-rows
