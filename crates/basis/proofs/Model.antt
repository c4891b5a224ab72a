-- Algorithm 2 keeps the rows that the definition keeps and counts their uses; and line 26's N* is there exactly when n rows are picked.
-- Assumes nothing.
use mathlib.Core.Path.{◌≡◌, refl, sym, ap, ap₂, ◌∙◌}
use Prim.Native.Nat.{ℕ, ◌*◌, ◌^◌, ◌≤◌, ◌<◌}
use native.Mathlib.Omega.{arith}
use mathlib.Core.Bool.{Bool, true, false, not}
use mathlib.Core.List.{List, [], ◌∷◌, ◌++◌, append-nil}
use lib.Dec.{ltb}
use lib.ListN.{length, length-set, length-append, length-replicate}
use lib.Seq.{append_snoc}
use borrow.Author.Tests.{ltb-true}
use Rattle.space.specs.Space.{spans, set_of}
use Rattle.space.specs.Lists.{Below, select, tabulate}
use Rattle.space.proofs.Lists.{below_split}
use Rattle.space.proofs.Dimension.{independent-most}
use Rattle.reading.specs.Reading.{kept, kept_after, kept_rows, other_rows, rank, uses, uses_of}
use Rattle.reading.proofs.Kept.{kept-independent, kept_below}
use Rattle.reading.specs.Raised.{raised}
use Rattle.reading.proofs.OneMore.{kept-snoc, kept_rows-snoc, uses-other, uses_keep}
use Rattle.reading.proofs.Pick.{length-uses}
use Rattle.basis.specs.Algorithm2.{digits, pass, Working, start, keeping, counting, step, steps, algorithm2}
use Rattle.basis.proofs.Stands.{stand_none}
use Rattle.basis.proofs.Lifted.{lifted}
use Rattle.basis.proofs.Elimination.{Rows, left, rows_low, rows-set, rows_test, rows_keep}

-- what the algorithm holds after some rows, with t digits below and d above
pub record Right (t d : ℕ) (rows : List ℕ) (s : Working) : Type 0 where
  pub size : length s.slots ≡ d
  pub slots : Rows t (kept_rows rows) s.slots
  pub uses : s.uses ≡ uses rows
  pub kept : s.kept ≡ kept rows

pub rank_room : (d : ℕ) (rows : List ℕ) → Below (2 ^ d) rows → length (kept_rows rows) ≤ d
rank_room d rows b = independent-most d (kept_rows rows) (kept_below (2 ^ d) rows b) (kept-independent rows)

pub rank_most : (d : ℕ) (rows : List ℕ) → Below (2 ^ d) rows → rank rows ≤ d
unfolding rank
rank_most d rows b = rank_room d rows b

module _ (t d : ℕ) (room : d ≤ t) (rows : List ℕ) (row : ℕ) (b : Below (2 ^ d) (rows ++ (row ∷ []))) (s : Working) (R : Right t d rows s) where
  small : row < 2 ^ length s.slots
  small = rw R.size (below_split (2 ^ d) rows (row ∷ []) b).1.0

  before : length (kept_rows rows) ≤ t
  before = omega (arith, rank_room d rows (below_split (2 ^ d) rows (row ∷ []) b).0)

  counted : length s.uses ≡ length (kept_rows rows)
  counted = ap length R.uses ∙ length-uses rows ∙ unfold rank in refl

  keeping_right : spans (kept_rows rows) row ≡ false → (pass t s.slots (row * 2 ^ t)).stop < length s.slots
      → Right t d (rows ++ (row ∷ [])) (keeping (pass t s.slots (row * 2 ^ t)) s)
  keeping_right free h =
      unfold keeping in record {
        size = length-set s.slots _ _ ∙ R.size;
        slots = rw more (rw counted (rows_keep t (kept_rows rows) s.slots before R.slots row small less h));
        uses = ap (λ (us : List ℕ). us ++ (0 ∷ [])) R.uses ∙ sym (uses_keep rows row free);
        kept = ap (λ (ks : List Bool). ks ++ (true ∷ [])) R.kept ∙ sym (kept-snoc rows row ∙ rw free);
      }
    where
      more : kept_rows (rows ++ (row ∷ [])) ≡ kept_rows rows ++ (row ∷ [])
      more = kept_rows-snoc rows row ∙ rw free

      less : length (kept_rows rows) < t
      less = omega (arith, ap length more, length-append (kept_rows rows) (row ∷ []), rank_room d (rows ++ (row ∷ [])) b)

  counting_right : spans (kept_rows rows) row ≡ true → Right t d (rows ++ (row ∷ [])) (counting (pass t s.slots (row * 2 ^ t)) s)
  counting_right e =
      unfold counting in record {
        size = R.size;
        slots = rw (kept_rows-snoc rows row) (rw e (rw (append-nil (kept_rows rows)) R.slots));
        uses = ap₂ raised (ap (λ (n : ℕ). digits n (left t s.slots row)) counted ∙ names) R.uses ∙ sym (uses-other rows row e);
        kept = ap (λ (ks : List Bool). ks ++ (false ∷ [])) R.kept ∙ sym (kept-snoc rows row ∙ rw e);
      }
    where
      low : left t s.slots row < 2 ^ t
      low = ltb-true (left t s.slots row) (2 ^ t) (rows_low t (kept_rows rows) s.slots before R.slots row ∙ e)

      names : digits (length (kept_rows rows)) (left t s.slots row) ≡ set_of (kept_rows rows) row
      names = rows-set t (kept_rows rows) s.slots before R.slots row (kept-independent rows) low

  -- the two ways of a step
  pub step_test : ltb (pass t s.slots (row * 2 ^ t)).stop (length s.slots) ≡ not (spans (kept_rows rows) row)
  step_test = rows_test t (kept_rows rows) s.slots before R.slots row small

  pub step_kept : spans (kept_rows rows) row ≡ false → step t row s ≡ keeping (pass t s.slots (row * 2 ^ t)) s
  unfolding step
  step_kept e = rw (step_test ∙ ap not e)

  pub step_other : spans (kept_rows rows) row ≡ true → step t row s ≡ counting (pass t s.slots (row * 2 ^ t)) s
  unfolding step
  step_other e = rw (step_test ∙ ap not e)

  pub step_right : Right t d (rows ++ (row ∷ [])) (step t row s)
  step_right = go (spans (kept_rows rows) row) refl
    where
      go : (b : Bool) → spans (kept_rows rows) row ≡ b → Right t d (rows ++ (row ∷ [])) (step t row s)
      go true e = rw (step_other e) (counting_right e)
      go false e = rw (step_kept e) (keeping_right e (ltb-true _ _ (step_test ∙ ap not e)))

steps_right : (t d : ℕ) → d ≤ t → (rows before : List ℕ) → Below (2 ^ d) (before ++ rows) → (s : Working) → Right t d before s
    → Right t d (before ++ rows) (steps t rows s)
unfolding steps
steps_right t d room [] before b s R = rw (append-nil before) R
steps_right t d room (row ∷ rows) before b s R =
    rw (← append_snoc before row rows) (steps_right t d room rows (before ++ (row ∷ [])) all (step t row s)
    (step_right t d room before row (below_split (2 ^ d) (before ++ (row ∷ [])) rows all).0 s R))
  where
    all : Below (2 ^ d) (before ++ (row ∷ []) ++ rows)
    all = rw (append_snoc before row rows) b

start_right : (t d : ℕ) → Right t d [] (start d)
unfolding start uses uses_of kept kept_rows other_rows kept_after select lifted tabulate
start_right t d = record { size = length-replicate d 0; slots = stand_none t d; uses = refl; kept = refl }

pub algorithm2_right : (t d : ℕ) → d ≤ t → (rows : List ℕ) → Below (2 ^ d) rows → Right t d rows (algorithm2 t d rows)
unfolding algorithm2
algorithm2_right t d room rows b = steps_right t d room rows [] b (start d) (start_right t d)

-- the kept rows, by arrival, and their uses, by kept place, are the definition's
pub algorithm2-reads : (t d : ℕ) → d ≤ t → (rows : List ℕ) → Below (2 ^ d) rows → ((algorithm2 t d rows).kept ≡ kept rows) × ((algorithm2 t d rows).uses ≡ uses rows)
algorithm2-reads t d room rows b = let R = algorithm2_right t d room rows b in (R.kept, R.uses)

-- one row more is one step more
steps-snoc : (t row : ℕ) (rows : List ℕ) (s : Working) → steps t (rows ++ (row ∷ [])) s ≡ step t row (steps t rows s)
unfolding steps
steps-snoc t row [] s = refl
steps-snoc t row (r ∷ rows) s = steps-snoc t row rows (step t r s)

pub algorithm2-snoc : (t d : ℕ) (rows : List ℕ) (row : ℕ) → algorithm2 t d (rows ++ (row ∷ [])) ≡ step t row (algorithm2 t d rows)
unfolding algorithm2
algorithm2-snoc t d rows row = steps-snoc t row rows (start d)
