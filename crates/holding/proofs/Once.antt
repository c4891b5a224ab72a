-- Orders that take no arrival twice: what stands in one was not taken before; an order that has each number at most once is one; a mask
-- leaves none twice; and the arrivals of a list are such an order.
-- Assumes nothing.
use mathlib.Core.Path.{◌≡◌, refl, sym}
use mathlib.Core.Bool.{Bool, true, false, cond, ◌||◌, true≢false}
use mathlib.Core.List.{List, [], ◌∷◌, ◌++◌}
use Prim.Native.Nat.{ℕ, zero, suc, ◌≤◌, ◌<◌}
use native.Mathlib.Omega.{arith}
use lib.Dec.{eqb}
use borrow.Author.Tests.{eqb-false, eq-eqb, ne_eqb}
use Rattle.space.specs.Lists.{select, count, tabulate, Below}
use Rattle.reading.specs.Orders.{arrivals, among}
use Rattle.reading.proofs.KeptPlaces.{among-select}
use Rattle.holding.specs.Holds.{Distinct}

-- what stands somewhere among others is not a number that isn't
among_at : (before after : List ℕ) (a b : ℕ) → among (before ++ (a ∷ after)) b ≡ false → eqb b a ≡ false
unfolding among
among_at [] after a b h = go (eqb b a) h
  where
    go : (c : Bool) → (c || among after b) ≡ false → c ≡ false
    go true h = h
    go false h = refl
among_at (x ∷ before) after a b h = go (eqb b x) h (among_at before after a b)
  where
    go : (c : Bool) → (c || among (before ++ (a ∷ after)) b) ≡ false → (among (before ++ (a ∷ after)) b ≡ false → eqb b a ≡ false) → eqb b a ≡ false
    go true h ih = absurd (true≢false h)
    go false h ih = ih h

pub distinct-new : (before after : List ℕ) (a : ℕ) → Distinct (before ++ (a ∷ after)) → among before a ≡ false
unfolding among
distinct-new [] after a d = refl
distinct-new (b ∷ before) after a d =
    rw (ne_eqb a b (λ e. eqb-false b a (among_at before after a b d.0) (sym e))) (distinct-new before after a d.1)

-- ---- an order that takes each number at most once

not_among : (a : ℕ) (bs : List ℕ) → count (eqb a) bs ≤ 0 → among bs a ≡ false
unfolding among count
not_among a [] h = refl
not_among a (b ∷ bs) h = go (eqb a b) h (not_among a bs)
  where
    go : (c : Bool) → cond c (suc (count (eqb a) bs)) (count (eqb a) bs) ≤ 0 → (count (eqb a) bs ≤ 0 → among bs a ≡ false) → (c || among bs a) ≡ false
    go true h ih = absurd (omega arith)
    go false h ih = ih h

pub once-distinct : (order : List ℕ) → ((a : ℕ) → count (eqb a) order ≤ 1) → Distinct order
unfolding count
once-distinct [] h = tt
once-distinct (b ∷ order) h = (not_among b order first, once-distinct order (λ a. rest a (eqb a b) (h a)))
  where
    first : count (eqb b) order ≤ 0
    first = let one : suc (count (eqb b) order) ≤ 1 = rw (eq-eqb b b refl) at (h b) in omega arith

    rest : (a : ℕ) (c : Bool) → cond c (suc (count (eqb a) order)) (count (eqb a) order) ≤ 1 → count (eqb a) order ≤ 1
    rest a true h = omega arith
    rest a false h = h

-- ---- a mask leaves none twice

pub select-distinct : (ks : List Bool) (bs : List ℕ) → Distinct bs → Distinct (select ks bs)
unfolding select
select-distinct [] bs d = tt
select-distinct (k ∷ ks) [] d = tt
select-distinct (true ∷ ks) (b ∷ bs) d = (among-select ks bs b d.0, select-distinct ks bs d.1)
select-distinct (false ∷ ks) (b ∷ bs) d = select-distinct ks bs d.1

-- ---- the arrivals of a list

among_not : (n : ℕ) (f : ℕ → ℕ) (x : ℕ) → ((k : ℕ) → x ≡ f k → ⊥) → among (tabulate n f) x ≡ false
unfolding among tabulate
among_not zero f x h = refl
among_not (suc n) f x h = rw (ne_eqb x (f 0) (h 0)) (among_not n (λ k. f (suc k)) x (λ k. h (suc k)))

distinct_of : (n : ℕ) (f : ℕ → ℕ) → ((i j : ℕ) → f i ≡ f j → i ≡ j) → Distinct (tabulate n f)
unfolding tabulate
distinct_of zero f inj = tt
distinct_of (suc n) f inj =
    (among_not n (λ k. f (suc k)) (f 0) (λ k e. omega (arith, inj 0 (suc k) e)), distinct_of n (λ k. f (suc k)) (λ i j e. omega (arith, inj (suc i) (suc j) e)))

below_of : (m n : ℕ) (f : ℕ → ℕ) → ((k : ℕ) → k < n → f k < m) → Below m (tabulate n f)
unfolding tabulate
below_of m zero f h = tt
below_of m (suc n) f h = (h 0 (omega arith), below_of m n (λ k. f (suc k)) (λ k g. h (suc k) (omega arith)))

pub arrivals-distinct : (m : ℕ) → Distinct (arrivals m)
unfolding arrivals
arrivals-distinct m = distinct_of m (λ a. a) (λ i j e. e)

pub arrivals_below : (m : ℕ) → Below m (arrivals m)
unfolding arrivals
arrivals_below m = below_of m m (λ a. a) (λ k h. h)
