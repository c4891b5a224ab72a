-- A kept row in the middle of a list: the rows kept, and the others, before and after it; and a vector in the middle of others.
-- Assumes nothing.
use mathlib.Core.Path.{◌≡◌, refl, sym, ap, ◌∙◌}
use Prim.Native.Nat.{ℕ}
use native.Mathlib.Omega.{arith}
use mathlib.Core.Bool.{Bool, true, false, not, true≢false}
use mathlib.Core.List.{List, [], ◌∷◌, ◌++◌, map}
use lib.Dec.{eqb}
use lib.ListN.{length, get_or, length-map, length-append}
use borrow.Author.Tests.{eqb-true}
use Rattle.space.specs.Lists.{select, All}
use Rattle.space.specs.Space.{◌⊕◌, sum_of, spans, independent}
use Rattle.space.proofs.Lists.{map-append, select-append, all_in, all_at}
use Rattle.space.proofs.Sets.{spans-own, rest_free}
use Rattle.reading.specs.Reading.{kept_after, kept, kept_rows, other_rows}
use Rattle.reading.proofs.Kept.{kept_append, length-kept}
use Rattle.confirmed.proofs.Masks.{all_merge, all_split}

-- ---- one vector among others

-- a sum without the one vector is the same with another in its place
pub sum_without : (xs : List ℕ) (a b : ℕ) (ys : List ℕ) (set : List Bool) → get_or set (length xs) false ≡ false → sum_of (xs ++ a ∷ ys) set ≡ sum_of (xs ++ b ∷ ys) set
unfolding sum_of
sum_without [] a b ys [] e = refl
sum_without [] a b ys (true ∷ set) e = absurd (true≢false e)
sum_without [] a b ys (false ∷ set) e = refl
sum_without (x ∷ xs) a b ys [] e = refl
sum_without (x ∷ xs) a b ys (true ∷ set) e = ap (λ (s : ℕ). x ⊕ s) (sum_without xs a b ys set e)
sum_without (x ∷ xs) a b ys (false ∷ set) e = sum_without xs a b ys set e

-- a vector that others do not span is none of them
pub none_same : (r : ℕ) (ks : List ℕ) → (spans ks r ≡ true → ⊥) → All (λ k. not (eqb k r)) ks
none_same r ks free = all_in (λ k. not (eqb k r)) ks (λ k m. go k (all_at (spans ks) ks (spans-own ks) k m) (eqb k r) refl)
  where
    go : (k : ℕ) → spans ks k ≡ true → (b : Bool) → eqb k r ≡ b → not b ≡ true
    go k s true e = absurd (free (ap (spans ks) (sym (eqb-true k r e)) ∙ s))
    go k s false e = refl

pub back_free : (xs ys : List ℕ) → independent (xs ++ ys) ≡ true → independent ys ≡ true
back_free [] ys i = i
back_free (x ∷ xs) ys i = back_free xs ys (rest_free x (xs ++ ys) i)

-- ---- one row among others

module _ (before : List ℕ) (r : ℕ) (after : List ℕ) where
  -- which of the rows after it are kept
  marks_after : List Bool
  marks_after = kept_after (kept_rows before ++ (r ∷ [])) after

  pub kept_tail : List ℕ
  kept_tail = select marks_after after

  module _ (keeps : spans (kept_rows before) r ≡ false) where
    kept_marks : kept (before ++ r ∷ after) ≡ kept before ++ true ∷ marks_after
    unfolding marks_after
    kept_marks = kept_append before (r ∷ after) ∙ ap (λ t. kept before ++ t) (unfold kept_after in rw keeps)

    length-after : length marks_after ≡ length after
    length-after =
        omega (arith, length-kept (before ++ r ∷ after), ap length kept_marks, length-append (kept before) (true ∷ marks_after), length-append before (r ∷ after), length-kept before)

    pub kept_split : kept_rows (before ++ r ∷ after) ≡ kept_rows before ++ r ∷ kept_tail
    unfolding kept_rows kept_tail
    kept_split = rw kept_marks (select-append (kept before) (true ∷ marks_after) before (r ∷ after) (length-kept before) ∙ unfold select in refl)

    others_split : other_rows (before ++ r ∷ after) ≡ other_rows before ++ select (map not marks_after) after
    unfolding other_rows
    others_split =
        rw kept_marks (rw (map-append not (kept before) (true ∷ marks_after))
        (select-append (map not (kept before)) (false ∷ map not marks_after) before (r ∷ after) (length-map (kept before) not ∙ length-kept before) ∙ unfold select in refl))

    -- a test that all kept rows but this one pass, and all others, is passed by all rows before it and after it
    pub elsewhere : (p : ℕ → Bool) → All p (kept_rows before) → All p kept_tail → All p (other_rows (before ++ r ∷ after)) → All p before × All p after
    unfolding kept_rows other_rows kept_tail
    elsewhere p a b o =
        (all_merge p (kept before) before (length-kept before) a others.0, all_merge p marks_after after length-after b others.1)
      where
        others : All p (select (map not (kept before)) before) × All p (select (map not marks_after) after)
        others = all_split p (select (map not (kept before)) before) (select (map not marks_after) after) (rw others_split at o)
