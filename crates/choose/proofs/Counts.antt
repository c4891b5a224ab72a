-- Counts by two tests, one against the other.
-- Assumes nothing.
use mathlib.Core.Path.{◌≡◌, refl}
use Prim.Native.Nat.{ℕ, suc, ◌≤◌}
use native.Mathlib.Omega.{arith}
use mathlib.Core.Bool.{Bool, true, false, cond, false≢true}
use mathlib.Core.List.{List, [], ◌∷◌}
use lib.Dec.{leb}
use borrow.Author.Tests.{lt-leb}
use Rattle.space.specs.Lists.{count, Below}

-- what passes one test passes another
pub count_mono : (p q : ℕ → Bool) → ((x : ℕ) → p x ≡ true → q x ≡ true) → (xs : List ℕ) → count p xs ≤ count q xs
unfolding count
count_mono p q f [] = omega arith
count_mono p q f (x ∷ xs) = go (p x) (q x) (f x) (count_mono p q f xs)
  where
    go : (a b : Bool) → (a ≡ true → b ≡ true) → count p xs ≤ count q xs
        → cond a (suc (count p xs)) (count p xs) ≤ cond b (suc (count q xs)) (count q xs)
    go true true h k = omega arith
    go true false h k = absurd (false≢true (h refl))
    go false true h k = omega arith
    go false false h k = k

-- none reaches what all are below
pub count_beyond : (t : ℕ) (xs : List ℕ) → Below t xs → count (leb t) xs ≡ 0
unfolding count
count_beyond t [] b = refl
count_beyond t (x ∷ xs) b = rw (lt-leb t x b.0) (count_beyond t xs b.1)
