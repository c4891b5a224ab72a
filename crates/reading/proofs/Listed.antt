-- The list order: the rows that it takes are those of the list that count, as they stand in it; and with one entry more at the end of the list, it takes
-- one arrival more, unless that entry repeats an earlier one.
-- Assumes nothing.
use mathlib.Core.Path.{◌≡◌, refl, sym, ap, ◌∙◌}
use Prim.Native.Nat.{ℕ}
use native.Mathlib.Numerals.{add-one}
use mathlib.Core.Bool.{Bool, true, false, cond, not}
use mathlib.Core.List.{List, [], ◌∷◌, ◌++◌, map}
use lib.ListN.{length, get_or, length-append}
use Rattle.space.specs.Lists.{select, tabulate}
use Rattle.space.proofs.Lists.{select-map, select-append, tabulate-snoc, length-tabulate}
use Rattle.rows.specs.Rows.{vector}
use Rattle.reading.specs.Orders.{among, arrivals, counts, taken, in_list_order}
use Rattle.reading.proofs.KeptPlaces.{map-tabulate}
use Rattle.reading.proofs.Counted.{length-counts, counts-snoc}

tabulate-map : (h : ℕ → ℕ) (entries : List ℕ) → tabulate (length entries) (λ a. h (get_or entries a 0)) ≡ map h entries
unfolding tabulate
tabulate-map h [] = refl
tabulate-map h (e ∷ entries) = ap (λ t. h e ∷ t) (tabulate-map h entries)

module _ (l : ℕ) (entries : List ℕ) where
  -- the rows of all arrivals are the rows of the list
  pub taken-arrivals : taken l entries (arrivals (length entries)) ≡ map (vector l) entries
  unfolding taken arrivals
  taken-arrivals = map-tabulate (λ a. vector l (get_or entries a 0)) (λ a. a) (length entries) ∙ tabulate-map (vector l) entries

  -- in list order those are taken that count
  pub taken-listed : taken l entries (in_list_order entries) ≡ select (counts entries) (map (vector l) entries)
  unfolding taken in_list_order
  taken-listed = sym (select-map (λ a. vector l (get_or entries a 0)) (counts entries) (arrivals (length entries))) ∙ ap (select (counts entries)) (unfold taken in taken-arrivals)

-- ---- one entry more

-- its arrival number is taken, unless it repeats an earlier one
pub listed-snoc : (entries : List ℕ) (entry : ℕ) → in_list_order (entries ++ (entry ∷ [])) ≡ in_list_order entries ++ cond (among entries entry) [] (length entries ∷ [])
unfolding in_list_order arrivals
listed-snoc entries entry =
    rw (counts-snoc entries entry, length-append entries (entry ∷ []), add-one (length entries), tabulate-snoc (length entries) (λ a. a))
    (select-append (counts entries) (not (among entries entry) ∷ []) (tabulate (length entries) (λ a. a)) (length entries ∷ [])
    (length-counts entries ∙ sym (length-tabulate (length entries) (λ a. a)))
    ∙ ap (λ t. select (counts entries) (tabulate (length entries) (λ a. a)) ++ t) (last (among entries entry)))
  where
    last : (b : Bool) → select (not b ∷ []) (length entries ∷ []) ≡ cond b [] (length entries ∷ [])
    last true = unfold select in refl
    last false = unfold select in refl
