-- The rows with role 2 are the picked ones, in whatever order they were taken, as long as it has arrivals of the list and none twice: an arrival has
-- role 2 exactly where it is among those picked. Roles behind the last row do not count.
-- Assumes nothing.
use mathlib.Core.Path.{◌≡◌, refl, sym, ap, ap₂, ◌∙◌}
use Prim.Native.Nat.{ℕ, zero, suc, ◌<◌}
use native.Mathlib.Omega.{arith}
use mathlib.Core.Bool.{Bool, true, false, cond, ◌||◌}
use mathlib.Core.List.{List, [], ◌∷◌, ◌++◌, map, Memᴰ}
use lib.Dec.{eqb}
use lib.ListN.{length, get_or, drop}
use borrow.Author.Tests.{eqb-true}
use Rattle.space.specs.Lists.{select, tabulate, Below}
use Rattle.space.proofs.Lists.{map_both, map_same, map-append, select-map, select_below, below_map_at}
use Rattle.octets.specs.Octets.{over}
use Rattle.rows.specs.Rows.{vector, row_count, entries_of, rows_of}
use Rattle.rows.proofs.Lists.{length-entries_of}
use Rattle.reading.specs.Reading.{kept, kept_rows, picked, picked_rows}
use Rattle.reading.specs.Orders.{among, arrivals, taken}
use Rattle.reading.specs.Marks.{value_of, by_arrival, kept_arrivals, telling, roles_marks}
use Rattle.reading.proofs.KeptPlaces.{among-select, map-tabulate}
use Rattle.reading.proofs.Listed.{taken-arrivals}
use Rattle.same_page.specs.SameRows.{SameRows}
use Rattle.holding.specs.Holds.{Distinct}
use Rattle.holding.proofs.Once.{select-distinct, arrivals-distinct}
use Rattle.chosen.specs.Chosen.{chosen}
use Rattle.concluding.proofs.Apart.{same_among, same_at}

-- ---- which arrivals have role 2

role-picked : (bs : List ℕ) → Distinct bs → (ps : List Bool) (a : ℕ) → eqb (value_of 0 bs (map telling ps) a) 2 ≡ among (select ps bs) a
unfolding value_of among select
role-picked [] d [] a = refl
role-picked [] d (p ∷ ps) a = refl
role-picked (b ∷ bs) d [] a = refl
role-picked (b ∷ bs) d (true ∷ ps) a = go (eqb a b) (role-picked bs d.1 ps a)
  where
    go : (c : Bool) → eqb (value_of 0 bs (map telling ps) a) 2 ≡ among (select ps bs) a → eqb (cond c 2 (value_of 0 bs (map telling ps) a)) 2 ≡ (c || among (select ps bs) a)
    go true e = refl
    go false e = e
role-picked (b ∷ bs) d (false ∷ ps) a = go (eqb a b) refl (role-picked bs d.1 ps a)
  where
    go : (c : Bool) → eqb a b ≡ c → eqb (value_of 0 bs (map telling ps) a) 2 ≡ among (select ps bs) a → eqb (cond c 1 (value_of 0 bs (map telling ps) a)) 2 ≡ among (select ps bs) a
    go true i e = sym (rw (eqb-true a b i) (among-select ps bs b d.0))
    go false i e = e

-- ---- the rows of marked arrivals, whatever marks follow

select-front : (p : ℕ → Bool) (f : ℕ → ℕ) (more : List Bool) (xs : List ℕ) → select (map p xs ++ more) (map f xs) ≡ map f (select (map p xs) xs)
unfolding select
select-front p f [] [] = refl
select-front p f (b ∷ more) [] = refl
select-front p f more (x ∷ xs) = go (p x) (select-front p f more xs)
  where
    go : (b : Bool) → select (map p xs ++ more) (map f xs) ≡ map f (select (map p xs) xs) → select (b ∷ (map p xs ++ more)) (f x ∷ map f xs) ≡ map f (select (b ∷ map p xs) (x ∷ xs))
    go true e = ap (λ t. f x ∷ t) e
    go false e = e

stands_in : (m : ℕ) (f : ℕ → ℕ) (a : ℕ) → a < m → Memᴰ (f a) (tabulate m f)
unfolding tabulate
stands_in zero f a h = absurd (omega arith)
stands_in (suc m) f zero h = Memᴰ.head refl
stands_in (suc m) f (suc a) h = Memᴰ.tail (stands_in m (λ k. f (suc k)) a (omega arith))

-- ---- of a list of bytes

module _ (n l : ℕ) (list order : List ℕ) (below : Below (row_count l list) order) (distinct : Distinct order) where
  abbrev entries : List ℕ
  entries = entries_of l list

  abbrev rows : List ℕ
  rows = taken l entries order

  abbrev row_of : ℕ → ℕ
  row_of a = vector l (get_or entries a 0)

  abbrev all : List ℕ
  all = arrivals (row_count l list)

  -- the arrivals picked
  abbrev those : List ℕ
  those = select (picked n rows) (kept_arrivals l entries order)

  rows_are : rows_of l list ≡ map row_of all
  unfolding rows_of
  rows_are = sym (taken-arrivals l entries) ∙ ap (λ (m : ℕ). taken l entries (arrivals m)) (length-entries_of l list) ∙ unfold taken in refl

  picked_are : picked_rows n rows ≡ map row_of those
  unfolding picked_rows kept_rows kept_arrivals
  picked_are = ap (select (picked n rows)) kept_are ∙ select-map row_of (picked n rows) (select (kept rows) order)
    where
      kept_are : select (kept rows) rows ≡ map row_of (select (kept rows) order)
      kept_are = unfold taken in select-map row_of (kept rows) order

  kept-distinct : Distinct (kept_arrivals l entries order)
  unfolding kept_arrivals
  kept-distinct = select-distinct (kept rows) order distinct

  marks_are : map (λ role. eqb role 2) (roles_marks telling n l entries order) ≡ map (among those) all
  unfolding roles_marks by_arrival arrivals
  marks_are =
      rw (length-entries_of l list) (ap (map (λ role. eqb role 2)) (sym (map-tabulate value (λ a. a) (row_count l list)))
      ∙ map_both (λ role. eqb role 2) value (among those) (role-picked (kept_arrivals l entries order) kept-distinct (picked n rows)) (tabulate (row_count l list) (λ a. a)))
    where
      value : ℕ → ℕ
      value = value_of 0 (kept_arrivals l entries order) (map telling (picked n rows))

  chosen_are : (roles : List ℕ) → chosen (over (roles_marks telling n l entries order) roles) (rows_of l list) ≡ map row_of (select (map (among those) all) all)
  unfolding chosen over
  chosen_are roles =
      let behind : List ℕ = drop (length (roles_marks telling n l entries order)) roles in
      ap₂ (λ (marks : List Bool) (rs : List ℕ). select marks rs)
      (map-append (λ role. eqb role 2) (roles_marks telling n l entries order) behind ∙ ap (λ (t : List Bool). t ++ map (λ role. eqb role 2) behind) marks_are) rows_are
      ∙ select-front (among those) row_of (map (λ role. eqb role 2) behind) all

  -- for roles that hold those of a reading at their front
  pub chosen-any : (roles : List ℕ) → SameRows (chosen (over (roles_marks telling n l (entries_of l list) order) roles) (rows_of l list)) (picked_rows n (taken l (entries_of l list) order))
  chosen-any roles =
      rw (chosen_are roles, picked_are) (same_at row_of (select (map (among those) all) all) those (same_among all those (arrivals-distinct (row_count l list))
      (select-distinct (picked n rows) (kept_arrivals l entries order) kept-distinct) own))
    where
      low : Below (row_count l list) those
      low = select_below (row_count l list) (picked n rows) (kept_arrivals l entries order) (unfold kept_arrivals in select_below (row_count l list) (kept rows) order below)

      own : (a : ℕ) → Memᴰ a those → Memᴰ a all
      own a m = unfold arrivals in stands_in (row_count l list) (λ k. k) a (below_map_at (row_count l list) (λ k. k) those (rw (map_same (λ k. k) (λ k. refl) those) low) a m)
