-- Laws of the words about lists that orders are spoken of in: how often a number stands in a list, and what a mask leaves of the arrivals.
-- Assumes nothing.
use mathlib.Core.Path.{◌≡◌, refl, sym, ap, ◌∙◌}
use Prim.Native.Nat.{ℕ, zero, suc, ◌+◌, ◌<◌}
use native.Mathlib.Omega.{arith}
use mathlib.Core.Bool.{Bool, true, false, cond}
use mathlib.Core.List.{List, [], ◌∷◌, ◌++◌, Memᴰ}
use lib.Dec.{eqb}
use lib.ListN.{length, get_or}
use borrow.Author.Tests.{eqb-true, eq-eqb, ne_eqb}
use Rattle.space.specs.Lists.{select, count, tabulate}
use Rattle.reading.specs.Orders.{arrivals, once}

-- ---- what stands in a list, and how often

pub mem_at : (xs : List ℕ) (i : ℕ) → i < length xs → Memᴰ (get_or xs i 0) xs
mem_at [] i h = absurd (omega arith)
mem_at (x ∷ xs) zero h = Memᴰ.head refl
mem_at (x ∷ xs) (suc i) h = Memᴰ.tail (mem_at xs i (omega arith))

count-append : (p : ℕ → Bool) (xs ys : List ℕ) → count p (xs ++ ys) ≡ count p xs + count p ys
unfolding count
count-append p [] ys = omega arith
count-append p (x ∷ xs) ys = go (p x) (count-append p xs ys)
  where
    go : (b : Bool) → count p (xs ++ ys) ≡ count p xs + count p ys
        → cond b (suc (count p (xs ++ ys))) (count p (xs ++ ys)) ≡ cond b (suc (count p xs)) (count p xs) + count p ys
    go true e = omega arith
    go false e = e

pub counted_mem : (x : ℕ) (xs : List ℕ) → (count (eqb x) xs ≡ 0 → ⊥) → Memᴰ x xs
unfolding count
counted_mem x [] h = absurd (h refl)
counted_mem x (y ∷ xs) h = go (eqb x y) refl h (counted_mem x xs)
  where
    go : (b : Bool) → eqb x y ≡ b → (cond b (suc (count (eqb x) xs)) (count (eqb x) xs) ≡ 0 → ⊥) → ((count (eqb x) xs ≡ 0 → ⊥) → Memᴰ x xs) → Memᴰ x (y ∷ xs)
    go true e h ih = Memᴰ.head (eqb-true x y e)
    go false e h ih = Memᴰ.tail (ih h)

pub mem_counted : {x : ℕ} {xs : List ℕ} → Memᴰ x xs → count (eqb x) xs ≡ 0 → ⊥
unfolding count
mem_counted {x = x} (Memᴰ.head {x = y} {xs = xs} p) e = let f : suc (count (eqb x) xs) ≡ 0 = rw (eq-eqb x y p) at e in omega arith
mem_counted {x = x} (Memᴰ.tail {x = y} {xs = xs} m) e = go (eqb x y) (mem_counted m) e
  where
    go : (b : Bool) → (count (eqb x) xs ≡ 0 → ⊥) → cond b (suc (count (eqb x) xs)) (count (eqb x) xs) ≡ 0 → ⊥
    go true h e = omega arith
    go false h e = h e

-- ---- lists that have each number as often: as many pass any test

-- where a number stands
record Stands (x : ℕ) (ys : List ℕ) : Type 0 where
  before : List ℕ
  after : List ℕ
  whole : ys ≡ before ++ x ∷ after

stands : {x : ℕ} {ys : List ℕ} → Memᴰ x ys → Stands x ys
stands (Memᴰ.head {xs = ys} e) = record { before = []; after = ys; whole = ap (λ (y : ℕ). y ∷ ys) (sym e) }
stands (Memᴰ.tail {x = y} m) = let s = stands m in record { before = y ∷ s.before; after = s.after; whole = ap (λ t. y ∷ t) s.whole }

count_in : (p : ℕ → Bool) (us : List ℕ) (x : ℕ) (vs : List ℕ) → count p (us ++ x ∷ vs) ≡ once (p x) + count p (us ++ vs)
count_in p us x vs = count-append p us (x ∷ vs) ∙ unfold count in go (p x)
  where
    go : (b : Bool) → count p us + cond b (suc (count p vs)) (count p vs) ≡ once b + count p (us ++ vs)
    go true = omega (arith, count-append p us vs)
    go false = omega (arith, count-append p us vs)

pub count-any : (xs ys : List ℕ) → ((a : ℕ) → count (eqb a) xs ≡ count (eqb a) ys) → (p : ℕ → Bool) → count p xs ≡ count p ys
count-any [] [] e p = refl
count-any [] (y ∷ ys) e p = absurd (mem_counted (Memᴰ.head {xs = ys} refl) (sym (e y) ∙ unfold count in refl))
count-any (x ∷ xs) ys e p =
    rw s.whole (count_in p [] x xs ∙ ap (λ (k : ℕ). once (p x) + k) (count-any xs (s.before ++ s.after) less p) ∙ sym (count_in p s.before x s.after))
  where
    s : Stands x ys
    s = stands (counted_mem x ys (λ z. mem_counted (Memᴰ.head {x = x} {xs = xs} refl) (e x ∙ z)))

    less : (a : ℕ) → count (eqb a) xs ≡ count (eqb a) (s.before ++ s.after)
    less a = omega (arith, count_in (eqb a) [] x xs, count_in (eqb a) s.before x s.after, e a, ap (count (eqb a)) s.whole)

-- ---- a mask over the arrivals: each that it marks is left once

none_of : (x : ℕ) (f : ℕ → ℕ) → ((k : ℕ) → x ≡ f k → ⊥) → (bs : List Bool) (m : ℕ) → count (eqb x) (select bs (tabulate m f)) ≡ 0
unfolding count select tabulate
none_of x f h [] m = refl
none_of x f h (b ∷ bs) zero = refl
none_of x f h (true ∷ bs) (suc m) = rw (ne_eqb x (f 0) (h 0)) (none_of x (λ k. f (suc k)) (λ k. h (suc k)) bs m)
none_of x f h (false ∷ bs) (suc m) = none_of x (λ k. f (suc k)) (λ k. h (suc k)) bs m

once_of : (f : ℕ → ℕ) → ((i j : ℕ) → f i ≡ f j → i ≡ j) → (bs : List Bool) (a : ℕ) → count (eqb (f a)) (select bs (tabulate (length bs) f)) ≡ once (get_or bs a false)
unfolding count select tabulate
once_of f inj [] a = refl
once_of f inj (true ∷ bs) zero =
    rw (eq-eqb (f 0) (f 0) refl) (ap suc (none_of (f 0) (λ k. f (suc k)) (λ k e. omega (arith, inj 0 (suc k) e)) bs (length bs)))
once_of f inj (true ∷ bs) (suc a) =
    rw (ne_eqb (f (suc a)) (f 0) (λ e. omega (arith, inj (suc a) 0 e))) (once_of (λ k. f (suc k)) (λ i j e. omega (arith, inj (suc i) (suc j) e)) bs a)
once_of f inj (false ∷ bs) zero = none_of (f 0) (λ k. f (suc k)) (λ k e. omega (arith, inj 0 (suc k) e)) bs (length bs)
once_of f inj (false ∷ bs) (suc a) = once_of (λ k. f (suc k)) (λ i j e. omega (arith, inj (suc i) (suc j) e)) bs a

pub marked-once : (bs : List Bool) (a : ℕ) → count (eqb a) (select bs (arrivals (length bs))) ≡ once (get_or bs a false)
unfolding arrivals
marked-once bs a = once_of (λ k. k) (λ i j e. e) bs a
