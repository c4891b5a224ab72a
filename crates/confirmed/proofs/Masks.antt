-- Laws of masks and places, each by induction on a list.
-- Assumes nothing.
use mathlib.Core.Path.{◌≡◌, refl}
use Prim.Native.Nat.{ℕ, zero, suc, ◌<◌}
use native.Mathlib.Omega.{arith}
use mathlib.Core.Bool.{Bool, true, false, not}
use mathlib.Core.List.{List, [], ◌∷◌, ◌++◌, map, Memᴰ}
use lib.ListN.{length, get_or}
use Rattle.space.specs.Lists.{select, marked, tabulate, All}

pub tabulate_at : (n : ℕ) (f : ℕ → ℕ) (j : ℕ) → j < n → get_or (tabulate n f) j 0 ≡ f j
unfolding tabulate
tabulate_at zero f j h = absurd (omega arith)
tabulate_at (suc n) f zero h = refl
tabulate_at (suc n) f (suc j) h = tabulate_at n (λ k. f (suc k)) j (omega arith)

-- two lists place by place: where a test of the one passes, one of the other does
pub select_along : (q p : ℕ → Bool) (bs : List Bool) (us xs : List ℕ) → length us ≡ length xs
    → ((j : ℕ) → j < length xs → q (get_or us j 0) ≡ true → p (get_or xs j 0) ≡ true) → All q (select bs us) → All p (select bs xs)
unfolding select
select_along q p [] us xs e f a = tt
select_along q p (b ∷ bs) us [] e f a = tt
select_along q p (b ∷ bs) [] (x ∷ xs) e f a = absurd (omega arith)
select_along q p (true ∷ bs) (u ∷ us) (x ∷ xs) e f a =
    (f 0 (omega arith) a.0, select_along q p bs us xs (omega arith) (λ j h t. f (suc j) (omega arith) t) a.1)
select_along q p (false ∷ bs) (u ∷ us) (x ∷ xs) e f a = select_along q p bs us xs (omega arith) (λ j h t. f (suc j) (omega arith) t) a

-- what passes at each place that is not marked
pub select-outside : (p : ℕ → Bool) (bs : List Bool) (xs : List ℕ) → length bs ≡ length xs
    → ((j : ℕ) → j < length xs → get_or bs j false ≡ false → p (get_or xs j 0) ≡ true) → All p (select (map not bs) xs)
unfolding select
select-outside p [] xs e f = tt
select-outside p (b ∷ bs) [] e f = tt
select-outside p (true ∷ bs) (x ∷ xs) e f = select-outside p bs xs (omega arith) (λ j h t. f (suc j) (omega arith) t)
select-outside p (false ∷ bs) (x ∷ xs) e f = (f 0 (omega arith) refl, select-outside p bs xs (omega arith) (λ j h t. f (suc j) (omega arith) t))

-- where not all are marked, one is left out
pub left_out : (bs : List Bool) (xs : List ℕ) → length bs ≡ length xs → marked bs < length xs → (y : ℕ) × Memᴰ y (select (map not bs) xs)
unfolding select marked
left_out [] [] e h = absurd (omega arith)
left_out [] (x ∷ xs) e h = absurd (omega arith)
left_out (b ∷ bs) [] e h = absurd (omega arith)
left_out (true ∷ bs) (x ∷ xs) e h = left_out bs xs (omega arith) (omega arith)
left_out (false ∷ bs) (x ∷ xs) e h = (x, Memᴰ.head refl)

-- those that a mask marks, and the others, all pass: all do
pub all_merge : (p : ℕ → Bool) (bs : List Bool) (xs : List ℕ) → length bs ≡ length xs → All p (select bs xs) → All p (select (map not bs) xs) → All p xs
unfolding select
all_merge p bs [] e a b = tt
all_merge p [] (x ∷ xs) e a b = absurd (omega arith)
all_merge p (true ∷ bs) (x ∷ xs) e a b = (a.0, all_merge p bs xs (omega arith) a.1 b)
all_merge p (false ∷ bs) (x ∷ xs) e a b = (b.0, all_merge p bs xs (omega arith) a b.1)

pub all_split : (p : ℕ → Bool) (xs ys : List ℕ) → All p (xs ++ ys) → All p xs × All p ys
all_split p [] ys a = (tt, a)
all_split p (x ∷ xs) ys a = let r : All p xs × All p ys = all_split p xs ys a.1 in ((a.0, r.0), r.1)

pub all_place : (p : ℕ → Bool) (xs : List ℕ) → All p xs → (j : ℕ) → j < length xs → p (get_or xs j 0) ≡ true
all_place p [] a j h = absurd (omega arith)
all_place p (x ∷ xs) a zero h = a.0
all_place p (x ∷ xs) a (suc j) h = all_place p xs a.1 j (omega arith)
