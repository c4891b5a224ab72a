-- Rows agree with a page or were misread; a sum with the one misread row among them does not agree, since the sum of the others does.
-- Assumes nothing.
use mathlib.Core.Path.{◌≡◌, refl, sym, ap, ◌∙◌}
use Prim.Native.Nat.{ℕ, zero, suc, ◌≤◌, ◌<◌}
use native.Mathlib.Omega.{arith}
use mathlib.Core.Bool.{Bool, true, false, cond, not, true≢false, false≢true}
use mathlib.Core.List.{List, [], ◌∷◌}
use lib.ListN.{length, get_or}
use borrow.Author.Tests.{not-true, not-false}
use Rattle.space.specs.Lists.{count, All}
use Rattle.space.specs.Space.{◌⊕◌, sum_of}
use Rattle.space.proofs.Lists.{all_mono}
use Rattle.space.proofs.Xor.{⊕_comm, ⊕_cancel_r}
use Rattle.rows.specs.Rows.{agrees}
use Rattle.same_page.proofs.Agreeing.{agrees-⊕, agrees-sum}
use Rattle.confirmed.specs.Confirmed.{misread}
use Rattle.confirmed.proofs.Counts.{none_pass, count_at}

module _ (l : ℕ) (page : List ℕ) where
  pub misread_is : (r : ℕ) → agrees l page r ≡ false → misread l page r ≡ true
  unfolding misread
  misread_is r e = rw e

  misread_not : (r : ℕ) → not (misread l page r) ≡ true → agrees l page r ≡ true
  unfolding misread
  misread_not r e = not-false (agrees l page r) (not-true (not (agrees l page r)) e)

  pub agrees_not : (r : ℕ) → agrees l page r ≡ true → not (misread l page r) ≡ true
  unfolding misread
  agrees_not r e = rw e

  pub none_misread : (rows : List ℕ) → count (misread l page) rows ≡ 0 → All (agrees l page) rows
  none_misread rows e = all_mono (λ r. not (misread l page r)) (agrees l page) misread_not rows (none_pass (misread l page) rows e)

  -- a row that does not agree, added to one that does
  bad-left : (a b : ℕ) → agrees l page a ≡ false → agrees l page b ≡ true → agrees l page (a ⊕ b) ≡ false
  bad-left a b p q = go (agrees l page (a ⊕ b)) refl
    where
      go : (c : Bool) → agrees l page (a ⊕ b) ≡ c → agrees l page (a ⊕ b) ≡ false
      go true e = absurd (true≢false (sym (rw (⊕_cancel_r a b) at (agrees-⊕ l page (a ⊕ b) b e q)) ∙ p))
      go false e = e

  bad_right : (a b : ℕ) → agrees l page a ≡ true → agrees l page b ≡ false → agrees l page (a ⊕ b) ≡ false
  bad_right a b p q = ap (agrees l page) (⊕_comm a b) ∙ bad-left b a q p

  -- a sum with the one misread row does not agree
  pub sum-misread : (ks : List ℕ) (set : List Bool) (j : ℕ) → j < length ks → get_or set j false ≡ true → agrees l page (get_or ks j 0) ≡ false
      → count (misread l page) ks ≤ 1 → agrees l page (sum_of ks set) ≡ false
  unfolding sum_of count
  sum-misread [] set j h e b c = absurd (omega arith)
  sum-misread (k ∷ ks) [] j h e b c = absurd (false≢true e)
  sum-misread (k ∷ ks) (false ∷ set) zero h e b c = absurd (false≢true e)
  sum-misread (k ∷ ks) (true ∷ set) zero h e b c = bad-left k (sum_of ks set) b (agrees-sum l page ks (none_misread ks none) set)
    where
      none : count (misread l page) ks ≡ 0
      none = omega (arith, rw (misread_is k b) at c)
  sum-misread (k ∷ ks) (s ∷ set) (suc j) h e b c = go s (sum-misread ks set j (omega arith) e b (rest (misread l page k) c))
    where
      there : 1 ≤ count (misread l page) ks
      there = count_at (misread l page) ks j (omega arith) (misread_is (get_or ks j 0) b)

      first : (x : Bool) → cond x (suc (count (misread l page) ks)) (count (misread l page) ks) ≤ 1 → not x ≡ true
      first true q = absurd (omega (arith, there))
      first false q = refl

      rest : (x : Bool) → cond x (suc (count (misread l page) ks)) (count (misread l page) ks) ≤ 1 → count (misread l page) ks ≤ 1
      rest true q = omega arith
      rest false q = q

      go : (s : Bool) → agrees l page (sum_of ks set) ≡ false → agrees l page (sum_of (k ∷ ks) (s ∷ set)) ≡ false
      go true q = bad_right k (sum_of ks set) (misread_not k (first (misread l page k) c)) q
      go false q = q
