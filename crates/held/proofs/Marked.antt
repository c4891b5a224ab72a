-- The marks of one arrival. In list order a row is marked kept exactly when it is no sum of rows kept before it in the whole list, and the use of a kept row
-- counts the rows that count, not kept, whose set contains it. In any order a repeat has 65535 uses and the role 0, as a row that is not kept.
-- Assumes nothing.
use mathlib.Core.Path.{◌≡◌, refl, ◌∙◌}
use Prim.Native.Nat.{ℕ, zero, suc}
use mathlib.Core.Bool.{Bool, true, false, not, ◌||◌, true≢false}
use mathlib.Core.List.{List, [], ◌∷◌, ◌++◌, map}
use lib.Dec.{eqb, leb}
use lib.ListN.{length, get_or, length-map}
use Rattle.space.specs.Lists.{select, count, tabulate}
use Rattle.space.specs.Space.{spans, set_of}
use Rattle.space.proofs.Lists.{map-append, length-tabulate}
use Rattle.rows.specs.Rows.{vector}
use Rattle.reading.specs.Reading.{kept, kept_rows, rank, uses_of, uses, picks, picked}
use Rattle.reading.specs.Orders.{among, counts, taken, in_list_order, Takes}
use Rattle.reading.specs.Marks.{value_of, by_arrival, kept_arrivals, uses_marks, roles_marks}
use Rattle.reading.proofs.Among.{among_mem}
use Rattle.demands.proofs.Words.{mem_counted}
use Rattle.held.specs.Listed.{counted_others}
use Rattle.held.proofs.Places.{all-roles, role_place, use_place}
use Rattle.held.proofs.Listed.{uses-listed, roles-listed}

module _ (l : ℕ) (before : List ℕ) (e : ℕ) (after : List ℕ) where
  abbrev whole : List ℕ
  whole = before ++ e ∷ after

  abbrev rows_of : List ℕ → List ℕ
  rows_of entries = map (vector l) entries

  rows : rows_of whole ≡ rows_of before ++ vector l e ∷ rows_of after
  rows = map-append (vector l) before (e ∷ after)

  -- "A row is kept exactly when it is no exclusive-or of rows kept before it, as a whole row": marked above 0
  pub role_exactly : (role : Bool → ℕ) → ((b : Bool) → leb 1 (role b) ≡ true) → (n : ℕ)
      → leb 1 (get_or (roles_marks role n l (before ++ e ∷ after) (in_list_order (before ++ e ∷ after))) (length before) 0)
      ≡ not (spans (kept_rows (map (vector l) before)) (vector l e))
  role_exactly role h n =
      rw (roles-listed l whole role n, rows, ← length-map before (vector l))
      (role_place (rows_of before) (vector l e) (rows_of after) (map role (picks n us)) size (all-roles role h (picks n us)))
    where
      us : List ℕ
      us = uses_of (kept_rows (rows_of before ++ vector l e ∷ rows_of after)) (counted_others l whole)

      size : length (map role (picks n us)) ≡ rank (rows_of before ++ vector l e ∷ rows_of after)
      size = unfold picks uses_of rank in length-map (picks n us) role ∙ length-map us (λ u. leb (count (leb u) us) n) ∙ length-tabulate _ _

  -- "The uses of a kept row are the rows not kept whose set contains it", of those that count; its kept place is the rank of the rows before it
  pub use_exactly : spans (kept_rows (map (vector l) before)) (vector l e) ≡ false
      → get_or (uses_marks l (before ++ e ∷ after) (in_list_order (before ++ e ∷ after))) (length before) 65535
      ≡ count (λ r. get_or (set_of (kept_rows (map (vector l) (before ++ e ∷ after))) r) (rank (map (vector l) before)) false) (counted_others l (before ++ e ∷ after))
  use_exactly free =
      rw (uses-listed l whole, rows, ← length-map before (vector l)) (use_place (rows_of before) (vector l e) (rows_of after) (counted_others l whole) free)

-- ---- a repeat, in any order

apart : (bs : List ℕ) (b a : ℕ) → among (b ∷ bs) a ≡ false → (eqb a b ≡ false) × (among bs a ≡ false)
unfolding among
apart bs b a h = go (eqb a b) h
  where
    go : (c : Bool) → (c || among bs a) ≡ false → (c ≡ false) × (among bs a ≡ false)
    go true e = absurd (true≢false e)
    go false e = (refl, e)

-- one that stands nowhere has no value
value_nowhere : (d : ℕ) (bs : List ℕ) (a : ℕ) → among bs a ≡ false → (ks : List Bool) (vs : List ℕ) → value_of d (select ks bs) vs a ≡ d
unfolding value_of select
value_nowhere d bs a h [] vs = refl
value_nowhere d [] a h (k ∷ ks) vs = refl
value_nowhere d (b ∷ bs) a h (true ∷ ks) [] = refl
value_nowhere d (b ∷ bs) a h (true ∷ ks) (v ∷ vs) = rw (apart bs b a h).0 (value_nowhere d bs a (apart bs b a h).1 ks vs)
value_nowhere d (b ∷ bs) a h (false ∷ ks) vs = value_nowhere d bs a (apart bs b a h).1 ks vs

none_there : (m : ℕ) (f : ℕ → ℕ) (d a : ℕ) → f a ≡ d → get_or (tabulate m f) a d ≡ d
unfolding tabulate
none_there zero f d a e = refl
none_there (suc m) f d zero e = e
none_there (suc m) f d (suc a) e = none_there m (λ k. f (suc k)) d a e

module _ (l : ℕ) (entries order : List ℕ) (takes : Takes entries order) (a : ℕ) (repeats : get_or (counts entries) a false ≡ false) where
  untaken : among order a ≡ false
  untaken = go (among order a) refl
    where
      go : (b : Bool) → among order a ≡ b → b ≡ false
      go true h = absurd (mem_counted (among_mem order a h) (takes a ∙ rw repeats))
      go false h = refl

  pub repeat_use : get_or (uses_marks l entries order) a 65535 ≡ 65535
  unfolding uses_marks by_arrival kept_arrivals
  repeat_use = none_there (length entries) _ 65535 a (value_nowhere 65535 order a untaken (kept (taken l entries order)) (uses (taken l entries order)))

  pub repeat_role : (role : Bool → ℕ) (n : ℕ) → get_or (roles_marks role n l entries order) a 0 ≡ 0
  unfolding roles_marks by_arrival kept_arrivals
  repeat_role role n = none_there (length entries) _ 0 a (value_nowhere 0 order a untaken (kept (taken l entries order)) (map role (picked n (taken l entries order))))
