-- "Kept rows don't change": the rows that are kept of those that count are those that the whole list keeps, repeats included. For a repeat is a sum of what
-- was kept before it: of that which its first copy is a sum of.
-- Assumes nothing.
use mathlib.Core.Path.{◌≡◌, refl, ap, ◌∙◌}
use Prim.Native.Nat.{ℕ}
use mathlib.Core.Bool.{Bool, true, false, or-true}
use mathlib.Core.List.Memᴰ
use mathlib.Core.List.{List, [], ◌∷◌, ◌++◌, map}
use Rattle.space.specs.Lists.{select, All}
use Rattle.space.specs.Space.{spans}
use Rattle.space.proofs.Lists.{map-append, all_mono, all_append, all_at}
use Rattle.space.proofs.Xor.{⊕_self}
use Rattle.space.proofs.Sets.{spans_zero, spans-append, spans-snoc}
use Rattle.rows.specs.Rows.{vector}
use Rattle.reading.specs.Reading.{kept_after, kept}
use Rattle.reading.specs.Orders.{among, counts_after, counts}
use Rattle.reading.proofs.Among.{among_mem}
use Rattle.held.specs.Listed.{both_marked}

-- ---- a mask under a mask

select_none : {A : Type 0} (bs : List Bool) → select {A = A} bs [] ≡ []
unfolding select
select_none [] = refl
select_none (b ∷ bs) = refl

pub select-select : {A : Type 0} (bs cs : List Bool) (xs : List A) → select (select bs cs) (select bs xs) ≡ select (both_marked bs cs) xs
unfolding select both_marked
select-select [] cs xs = refl
select-select (b ∷ bs) [] xs = refl
select-select (true ∷ bs) (c ∷ cs) [] = refl
select-select (false ∷ bs) (c ∷ cs) [] = select_none (select bs cs)
select-select (true ∷ bs) (true ∷ cs) (x ∷ xs) = ap (λ t. x ∷ t) (select-select bs cs xs)
select-select (true ∷ bs) (false ∷ cs) (x ∷ xs) = select-select bs cs xs
select-select (false ∷ bs) (c ∷ cs) (x ∷ xs) = select-select bs cs xs

-- ---- kept rows don't change

-- after some kept rows: the marks of the rows that count are their marks in the whole list, and no repeat is kept
record Same (before rows : List ℕ) (cs : List Bool) : Type 0 where
  marks : kept_after before (select cs rows) ≡ select cs (kept_after before rows)
  repeats : both_marked cs (kept_after before rows) ≡ kept_after before rows

module _ (v : ℕ) (rows before : List ℕ) (cs : List Bool) where
  same_repeat : spans before v ≡ true → Same before rows cs → Same before (v ∷ rows) (false ∷ cs)
  unfolding kept_after select both_marked
  same_repeat e s = record { marks = rw e s.marks; repeats = rw e (ap (λ t. false ∷ t) s.repeats) }

  same_other : spans before v ≡ true → Same before rows cs → Same before (v ∷ rows) (true ∷ cs)
  unfolding kept_after select both_marked
  same_other e s = record { marks = rw e (ap (λ t. false ∷ t) s.marks); repeats = rw e (ap (λ t. false ∷ t) s.repeats) }

  same_kept : spans before v ≡ false → Same (before ++ (v ∷ [])) rows cs → Same before (v ∷ rows) (true ∷ cs)
  unfolding kept_after select both_marked
  same_kept e s = record { marks = rw e (ap (λ t. true ∷ t) s.marks); repeats = rw e (ap (λ t. true ∷ t) s.repeats) }

module _ (l : ℕ) where
  abbrev rows_of : List ℕ → List ℕ
  rows_of entries = map (vector l) entries

  module _ (e : ℕ) (seen before : List ℕ) (a : All (spans before) (rows_of seen)) where
    repeat_spanned : among seen e ≡ true → spans before (vector l e) ≡ true
    repeat_spanned p = all_at (spans before) (rows_of seen) a (vector l e) (Memᴰ.map (vector l) (among_mem seen e p))

    grown : spans before (vector l e) ≡ true → All (spans before) (rows_of (seen ++ (e ∷ [])))
    grown q = rw (map-append (vector l) seen (e ∷ [])) (all_append (spans before) (rows_of seen) (vector l e ∷ []) a (q, tt))

  grown_kept : (e : ℕ) (seen before : List ℕ) → All (spans before) (rows_of seen) → All (spans (before ++ (vector l e ∷ []))) (rows_of (seen ++ (e ∷ [])))
  grown_kept e seen before a =
      grown e seen (before ++ (vector l e ∷ [])) (all_mono (spans before) (spans (before ++ (vector l e ∷ []))) (spans-append before (vector l e ∷ [])) (rows_of seen) a)
      (spans-snoc before (vector l e) (vector l e) ∙ rw (⊕_self (vector l e)) (rw (spans_zero before) (or-true (spans before (vector l e)))))

  same_step : (e : ℕ) (entries seen before : List ℕ) → All (spans before) (rows_of seen)
      → ((before : List ℕ) → All (spans before) (rows_of (seen ++ (e ∷ []))) → Same before (rows_of entries) (counts_after (seen ++ (e ∷ [])) entries))
      → (f : Bool) → among seen e ≡ f → (k : Bool) → spans before (vector l e) ≡ k → Same before (rows_of (e ∷ entries)) (counts_after seen (e ∷ entries))
  unfolding counts_after
  same_step e entries seen before a ih true p k q =
      rw p (same_repeat (vector l e) (rows_of entries) before _ (repeat_spanned e seen before a p) (ih before (grown e seen before a (repeat_spanned e seen before a p))))
  same_step e entries seen before a ih false p true q = rw p (same_other (vector l e) (rows_of entries) before _ q (ih before (grown e seen before a q)))
  same_step e entries seen before a ih false p false q =
      rw p (same_kept (vector l e) (rows_of entries) before _ q (ih (before ++ (vector l e ∷ [])) (grown_kept e seen before a)))

  same_after : (entries seen before : List ℕ) → All (spans before) (rows_of seen) → Same before (rows_of entries) (counts_after seen entries)
  same_after [] seen before a = unfold kept_after counts_after select both_marked in record { marks = refl; repeats = refl }
  same_after (e ∷ entries) seen before a =
      same_step e entries seen before a (λ before. same_after entries (seen ++ (e ∷ [])) before) (among seen e) refl (spans before (vector l e)) refl

  same : (entries : List ℕ) → Same [] (rows_of entries) (counts entries)
  unfolding counts
  same entries = same_after entries [] [] tt

  -- a row that counts is kept among those that count exactly when it is kept in the whole list
  pub kept-taken : (entries : List ℕ) → kept (select (counts entries) (map (vector l) entries)) ≡ select (counts entries) (kept (map (vector l) entries))
  unfolding kept
  kept-taken entries = (same entries).marks

  -- and no repeat is kept
  pub repeat_never_kept : (entries : List ℕ) → both_marked (counts entries) (kept (map (vector l) entries)) ≡ kept (map (vector l) entries)
  unfolding kept
  repeat_never_kept entries = (same entries).repeats
