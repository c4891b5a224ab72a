-- Words about lists that the definitions of every crate use.
use Rattle.std.specs.Prelude.{ℕ, zero, suc, max, ◌<◌, ◌≡◌, Bool, true, false, cond, List, [], ◌∷◌}

-- The elements that a mask marks.
unfoldable pub select : {A : Type 0} → List Bool → List A → List A
select [] xs = []
select (b ∷ bs) [] = []
select (true ∷ bs) (x ∷ xs) = x ∷ select bs xs
select (false ∷ bs) (x ∷ xs) = select bs xs

-- How many a mask marks.
unfoldable pub marked : List Bool → ℕ
marked [] = 0
marked (b ∷ bs) = cond b (suc (marked bs)) (marked bs)

-- How many pass a test.
unfoldable pub count : (ℕ → Bool) → List ℕ → ℕ
count p [] = 0
count p (x ∷ xs) = cond (p x) (suc (count p xs)) (count p xs)

-- One more than the largest; 0 where there is none.
unfoldable pub above : List ℕ → ℕ
above [] = 0
above (x ∷ xs) = max (suc x) (above xs)

-- The values of f at 0, 1 and so on, n of them.
unfoldable pub tabulate : ℕ → (ℕ → ℕ) → List ℕ
tabulate zero f = []
tabulate (suc n) f = f 0 ∷ tabulate n (λ k. f (suc k))

-- Each element passes a test.
abbrev pub All : {A : Type 0} → (A → Bool) → List A → Type 0
All p [] = Unit {0}
All p (x ∷ xs) = (p x ≡ true) × All p xs

-- Each number is below m.
abbrev pub Below : ℕ → List ℕ → Type 0
Below m [] = Unit {0}
Below m (x ∷ xs) = (x < m) × Below m xs
