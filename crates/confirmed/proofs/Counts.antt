-- Laws of counts, each by induction on a list.
-- Assumes nothing.
use mathlib.Core.Path.{◌≡◌, refl, sym, ◌∙◌}
use Prim.Native.Nat.{ℕ, zero, suc, ◌+◌, ◌≤◌, ◌<◌}
use native.Mathlib.Omega.{arith}
use mathlib.Core.Bool.{Bool, true, false, cond, not, true≢false}
use mathlib.Core.List.{List, [], ◌∷◌, ◌++◌, map, Memᴰ}
use lib.ListN.{length, get_or}
use borrow.Author.Tests.{not-true}
use Rattle.space.specs.Lists.{select, count, All}

-- a count of 0, and what it says
pub none_pass : (p : ℕ → Bool) (xs : List ℕ) → count p xs ≡ 0 → All (λ x. not (p x)) xs
unfolding count
none_pass p [] e = tt
none_pass p (x ∷ xs) e = go (p x) refl e (none_pass p xs)
  where
    go : (b : Bool) → p x ≡ b → cond b (suc (count p xs)) (count p xs) ≡ 0 → (count p xs ≡ 0 → All (λ y. not (p y)) xs)
        → (not (p x) ≡ true) × All (λ y. not (p y)) xs
    go true q h ih = absurd (omega arith)
    go false q h ih = (rw q, ih h)

pub pass_none : (p : ℕ → Bool) (xs : List ℕ) → All (λ x. not (p x)) xs → count p xs ≡ 0
unfolding count
pass_none p [] a = refl
pass_none p (x ∷ xs) a = rw (not-true (p x) a.0) (pass_none p xs a.1)

-- where some pass, one of them
pub some-passes : (p : ℕ → Bool) (xs : List ℕ) → 1 ≤ count p xs → (x : ℕ) × Memᴰ x xs × (p x ≡ true)
unfolding count
some-passes p [] h = absurd (omega arith)
some-passes p (y ∷ xs) h = go (p y) refl h (some-passes p xs)
  where
    go : (b : Bool) → p y ≡ b → 1 ≤ cond b (suc (count p xs)) (count p xs)
        → (1 ≤ count p xs → (x : ℕ) × Memᴰ x xs × (p x ≡ true)) → (x : ℕ) × Memᴰ x (y ∷ xs) × (p x ≡ true)
    go true e k ih = (y, Memᴰ.head refl, e)
    go false e k ih = let s : (x : ℕ) × Memᴰ x xs × (p x ≡ true) = ih k in (s.0, Memᴰ.tail s.1, s.2)

-- one that passes is counted
pub count_at : (p : ℕ → Bool) (xs : List ℕ) (j : ℕ) → j < length xs → p (get_or xs j 0) ≡ true → 1 ≤ count p xs
unfolding count
count_at p [] j h e = absurd (omega arith)
count_at p (x ∷ xs) zero h e = rw e (omega arith)
count_at p (x ∷ xs) (suc j) h e = go (p x) (count_at p xs j (omega arith) e)
  where
    go : (b : Bool) → 1 ≤ count p xs → 1 ≤ cond b (suc (count p xs)) (count p xs)
    go true k = omega arith
    go false k = k

-- what passes one test passes another
pub count-more : (a p q : ℕ → Bool) → ((x : ℕ) → a x ≡ true → p x ≡ true → q x ≡ true) → (xs : List ℕ) → All a xs → count p xs ≤ count q xs
unfolding count
count-more a p q f [] h = omega arith
count-more a p q f (x ∷ xs) h = go (p x) refl (q x) refl (count-more a p q f xs h.1)
  where
    go : (b : Bool) → p x ≡ b → (c : Bool) → q x ≡ c → count p xs ≤ count q xs
        → cond b (suc (count p xs)) (count p xs) ≤ cond c (suc (count q xs)) (count q xs)
    go true e true d ih = omega arith
    go true e false d ih = absurd (true≢false (sym (f x h.0 e) ∙ d))
    go false e true d ih = omega arith
    go false e false d ih = ih

one_more_lem : (b : Bool) (x y : ℕ) → cond b (suc (x + y)) (x + y) ≡ cond b (suc x) x + y
one_more_lem true x y = omega arith
one_more_lem false x y = refl

more-one : (b : Bool) (x y : ℕ) → cond b (suc (x + y)) (x + y) ≡ x + cond b (suc y) y
more-one true x y = omega arith
more-one false x y = refl

pub count-append : (p : ℕ → Bool) (xs ys : List ℕ) → count p (xs ++ ys) ≡ count p xs + count p ys
unfolding count
count-append p [] ys = omega arith
count-append p (x ∷ xs) ys = rw (count-append p xs ys) (one_more_lem (p x) (count p xs) (count p ys))

-- those that a mask marks, and the others
pub count_split : (p : ℕ → Bool) (bs : List Bool) (xs : List ℕ) → length bs ≡ length xs
    → count p xs ≡ count p (select bs xs) + count p (select (map not bs) xs)
unfolding count select
count_split p [] [] e = refl
count_split p [] (x ∷ xs) e = absurd (omega arith)
count_split p (b ∷ bs) [] e = absurd (omega arith)
count_split p (true ∷ bs) (x ∷ xs) e = rw (count_split p bs xs (omega arith)) (one_more_lem (p x) (count p (select bs xs)) (count p (select (map not bs) xs)))
count_split p (false ∷ bs) (x ∷ xs) e = rw (count_split p bs xs (omega arith)) (more-one (p x) (count p (select bs xs)) (count p (select (map not bs) xs)))
