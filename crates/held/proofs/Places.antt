-- The mark of one row of a list: above 0 exactly when the row is kept, and its use counts the rows whose set contains it.
-- Assumes nothing.
use mathlib.Core.Path.{◌≡◌, refl, sym, ◌∙◌}
use Prim.Native.Nat.{ℕ, zero, suc, ◌≤◌, ◌<◌}
use native.Mathlib.Nat.{le_of_eq}
use native.Mathlib.Omega.{arith}
use mathlib.Core.Bool.{Bool, true, false, not, false≢true}
use mathlib.Core.List.{List, [], ◌∷◌, ◌++◌, map}
use lib.Dec.{leb}
use lib.ListN.{length, get_or, take}
use lib.Seq.{take_at}
use Rattle.space.specs.Lists.{marked, count, tabulate, All}
use Rattle.space.specs.Space.{spans, set_of}
use Rattle.space.proofs.Lists.{length-select}
use Rattle.reading.specs.Reading.{kept_after, kept, kept_rows, rank, uses_of}
use Rattle.reading.proofs.Kept.{length-kept, kept_append, kept_at}
use Rattle.held.specs.Listed.{spread}

-- where every value is above 0, there is one exactly at the marks
spread_marks : (ks : List Bool) (vs : List ℕ) → marked ks ≤ length vs → All (leb 1) vs → (i : ℕ) → leb 1 (get_or (spread 0 ks vs) i 0) ≡ get_or ks i false
unfolding spread marked
spread_marks [] vs h a i = refl
spread_marks (false ∷ ks) vs h a zero = refl
spread_marks (false ∷ ks) vs h a (suc i) = spread_marks ks vs h a i
spread_marks (true ∷ ks) [] h a i = absurd (omega arith)
spread_marks (true ∷ ks) (v ∷ vs) h a zero = a.0
spread_marks (true ∷ ks) (v ∷ vs) h a (suc i) = spread_marks ks vs (omega arith) a.1 i

-- the value at a kept row is that at its kept place
spread-kept : (d : ℕ) (ks : List Bool) (vs : List ℕ) (i : ℕ) → get_or ks i false ≡ true → get_or (spread d ks vs) i d ≡ get_or vs (marked (take i ks)) d
unfolding spread marked
spread-kept d [] vs i e = absurd (false≢true e)
spread-kept d (false ∷ ks) vs zero e = absurd (false≢true e)
spread-kept d (false ∷ ks) vs (suc i) e = spread-kept d ks vs i e
spread-kept d (true ∷ ks) [] zero e = refl
spread-kept d (true ∷ ks) [] (suc i) e = spread-kept d ks [] i e
spread-kept d (true ∷ ks) (v ∷ vs) zero e = refl
spread-kept d (true ∷ ks) (v ∷ vs) (suc i) e = spread-kept d ks vs i e

pub get_d_tabulate : (n : ℕ) (f : ℕ → ℕ) (d k : ℕ) → k < n → get_or (tabulate n f) k d ≡ f k
unfolding tabulate
get_d_tabulate zero f d k h = absurd (omega arith)
get_d_tabulate (suc n) f d zero h = refl
get_d_tabulate (suc n) f d (suc k) h = get_d_tabulate n (λ k. f (suc k)) d k (omega arith)

marked_more : (bs cs : List Bool) → marked bs < marked (bs ++ true ∷ cs)
unfolding marked
marked_more [] cs = omega arith
marked_more (true ∷ bs) cs = omega (arith, marked_more bs cs)
marked_more (false ∷ bs) cs = marked_more bs cs

pub all-roles : (role : Bool → ℕ) → ((b : Bool) → leb 1 (role b) ≡ true) → (bs : List Bool) → All (leb 1) (map role bs)
all-roles role h [] = tt
all-roles role h (b ∷ bs) = (h b, all-roles role h bs)

pub marked-rank : (rows : List ℕ) → marked (kept rows) ≡ rank rows
unfolding rank kept_rows
marked-rank rows = sym (length-select (kept rows) rows (length-kept rows))

module _ (before : List ℕ) (r : ℕ) (after : List ℕ) where
  -- a row is marked above 0 exactly when it is no sum of rows kept before it
  pub role_place : (vs : List ℕ) → length vs ≡ rank (before ++ r ∷ after) → All (leb 1) vs
      → leb 1 (get_or (spread 0 (kept (before ++ r ∷ after)) vs) (length before) 0) ≡ not (spans (kept_rows before) r)
  role_place vs size a =
      spread_marks (kept (before ++ r ∷ after)) vs (le_of_eq (marked-rank (before ++ r ∷ after) ∙ sym size)) a (length before) ∙ kept_at before r after

  -- the use of a kept row counts the rows whose set contains it; its kept place is the rank of the rows before it
  pub use_place : (others : List ℕ) → spans (kept_rows before) r ≡ false
      → get_or (spread 65535 (kept (before ++ r ∷ after)) (uses_of (kept_rows (before ++ r ∷ after)) others)) (length before) 65535
      ≡ count (λ x. get_or (set_of (kept_rows (before ++ r ∷ after)) x) (rank before) false) others
  use_place others free =
      spread-kept 65535 (kept rows) (uses_of (kept_rows rows) others) (length before) (kept_at before r after ∙ rw free)
      ∙ rw place (unfold uses_of in get_d_tabulate (length (kept_rows rows)) _ 65535 (rank before) inside)
    where
      rows : List ℕ
      rows = before ++ r ∷ after

      place : marked (take (length before) (kept rows)) ≡ rank before
      place = rw (kept_append before (r ∷ after)) (rw (take_at (kept before) (kept_after (kept_rows before) (r ∷ after)) (length before) (length-kept before)) (marked-rank before))

      inside : rank before < length (kept_rows rows)
      inside =
          unfold rank in rw (← marked-rank before, ← marked-rank rows, kept_append before (r ∷ after))
          (unfold kept_after in rw free (marked_more (kept before) _))
