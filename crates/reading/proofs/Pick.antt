-- The pick, in document 01's words: with r = n all kept rows; with r over n the n with most uses, exactly when their smallest use
-- is above the largest outside; and a tie exactly when no n rows are so.
-- Assumes nothing.
use mathlib.Core.Path.{◌≡◌, refl, sym, ap, ap₂, ◌∙◌}
use Prim.Native.Nat.{ℕ, suc, ◌≤◌, ◌<◌, suc-le-suc}
use native.Mathlib.Nat.{le_of_eq, le_of_lt}
use native.Mathlib.Omega.{arith}
use native.Mathlib.Decide.{dec_lt}
use mathlib.Core.Bool.{Bool, true, false, cond, not, true≢false}
use mathlib.Core.List.Memᴰ
use mathlib.Core.List.{List, [], ◌∷◌, map, Memᴰ}
use mathlib.Core.Logic.{⊎_elim, ◌↔◌}
use lib.Dec.{eqb, leb}
use lib.ListN.{length, length-map}
use borrow.Author.Tests.{le-leb, lt-leb, leb-true, leb-false, eqb-true, eq-eqb, not-false, le-ltb}
use Rattle.space.specs.Lists.{select, marked, count, Below}
use Rattle.space.specs.Space.{independent}
use Rattle.space.proofs.Lists.{select-map, select_below, select_every, marked_every, length-select, count_le, length-tabulate}
use Rattle.space.proofs.Sets.{select-independent}
use Rattle.rows.specs.Rows.{constraint}
use Rattle.reading.specs.Reading.{kept, kept_rows, rank, uses_of, uses, picks, picked, picked_rows, few, tie}
use Rattle.reading.specs.Properties.{Most}
use Rattle.reading.proofs.Kept.{kept-independent}

-- ---- a choice of n with more uses than any left out

-- those that pass a test, and those that do not
pub select_true : (f : ℕ → Bool) (us : List ℕ) (x : ℕ) → Memᴰ x (select (map f us) us) → f x ≡ true
unfolding select
select_true f [] x m = absurd (Memᴰ.not-nil m)
select_true f (u ∷ us) x m = go (f u) refl m (select_true f us x)
  where
    go : (b : Bool) → f u ≡ b → Memᴰ x (select (b ∷ map f us) (u ∷ us)) → (Memᴰ x (select (map f us) us) → f x ≡ true) → f x ≡ true
    go true e k ih = ⊎_elim (λ p. ap f p ∙ e) ih (Memᴰ.cases_cons k)
    go false e k ih = ih k

select_false : (f : ℕ → Bool) (us : List ℕ) (x : ℕ) → Memᴰ x (select (map not (map f us)) us) → f x ≡ false
unfolding select
select_false f [] x m = absurd (Memᴰ.not-nil m)
select_false f (u ∷ us) x m = go (f u) refl m (select_false f us x)
  where
    go : (b : Bool) → f u ≡ b → Memᴰ x (select (not b ∷ map not (map f us)) (u ∷ us)) → (Memᴰ x (select (map not (map f us)) us) → f x ≡ false) → f x ≡ false
    go true e k ih = ih k
    go false e k ih = ⊎_elim (λ p. ap f p ∙ e) ih (Memᴰ.cases_cons k)

-- a choice by a test that is so decided
select_only : (f : ℕ → Bool) (us : List ℕ) (bs : List Bool) → length bs ≡ length us
    → ((x : ℕ) → Memᴰ x (select bs us) → f x ≡ true) → ((y : ℕ) → Memᴰ y (select (map not bs) us) → f y ≡ false) → bs ≡ map f us
unfolding select
select_only f [] [] e t g = refl
select_only f [] (b ∷ bs) e t g = absurd (omega arith)
select_only f (u ∷ us) [] e t g = absurd (omega arith)
select_only f (u ∷ us) (true ∷ bs) e t g =
    ap₂ (λ x l. x ∷ l) (sym (t u (Memᴰ.head refl))) (select_only f us bs (omega arith) (λ x m. t x (Memᴰ.tail m)) g)
select_only f (u ∷ us) (false ∷ bs) e t g =
    ap₂ (λ x l. x ∷ l) (sym (g u (Memᴰ.head refl))) (select_only f us bs (omega arith) t (λ y m. g y (Memᴰ.tail m)))

-- ---- how many have as many uses or more

count_falls : (x y : ℕ) → x ≤ y → (us : List ℕ) → count (leb y) us ≤ count (leb x) us
unfolding count
count_falls x y h [] = omega arith
count_falls x y h (u ∷ us) = go (leb y u) refl (leb x u) refl (count_falls x y h us)
  where
    go : (a : Bool) → leb y u ≡ a → (b : Bool) → leb x u ≡ b → count (leb y) us ≤ count (leb x) us
        → cond a (suc (count (leb y) us)) (count (leb y) us) ≤ cond b (suc (count (leb x) us)) (count (leb x) us)
    go true p true q ih = omega arith
    go true p false q ih = absurd (omega (arith, leb-true y u p, leb-false x u q))
    go false p true q ih = omega arith
    go false p false q ih = ih

at_most_one_more : (b : Bool) (n m : ℕ) → n ≤ m → cond b (suc n) n ≤ suc m
at_most_one_more true n m h = omega arith
at_most_one_more false n m h = omega arith

no_fewer : (b : Bool) (n m : ℕ) → n ≤ m → n ≤ cond b (suc m) m
no_fewer true n m h = omega arith
no_fewer false n m h = h

module _ (u : ℕ) where
  -- all that are left out have fewer
  count-inside : (us : List ℕ) (bs : List Bool) → length bs ≡ length us → ((y : ℕ) → Memᴰ y (select (map not bs) us) → y < u) → count (leb u) us ≤ marked bs
  unfolding count marked select
  count-inside [] bs e h = omega arith
  count-inside (x ∷ us) [] e h = absurd (omega arith)
  count-inside (x ∷ us) (true ∷ bs) e h = at_most_one_more (leb u x) (count (leb u) us) (marked bs) (count-inside us bs (omega arith) h)
  count-inside (x ∷ us) (false ∷ bs) e h =
      rw (lt-leb u x (h x (Memᴰ.head refl))) (count-inside us bs (omega arith) (λ y m. h y (Memᴰ.tail m)))

  -- all that are chosen have as many
  count-outside : (us : List ℕ) (bs : List Bool) → length bs ≡ length us → ((x : ℕ) → Memᴰ x (select bs us) → u ≤ x) → marked bs ≤ count (leb u) us
  unfolding count marked select
  count-outside us [] e h = omega arith
  count-outside [] (b ∷ bs) e h = absurd (omega arith)
  count-outside (x ∷ us) (true ∷ bs) e h =
      rw (le-leb u x (h x (Memᴰ.head refl))) (suc-le-suc (count-outside us bs (omega arith) (λ y m. h y (Memᴰ.tail m))))
  count-outside (x ∷ us) (false ∷ bs) e h = no_fewer (leb u x) (marked bs) (count (leb u) us) (count-outside us bs (omega arith) h)

  -- and so does one that is left out
  count_past : (us : List ℕ) (bs : List Bool) → length bs ≡ length us → Memᴰ u (select (map not bs) us) → ((x : ℕ) → Memᴰ x (select bs us) → u ≤ x)
      → suc (marked bs) ≤ count (leb u) us
  unfolding count marked select
  count_past us [] e m h = absurd (Memᴰ.not-nil m)
  count_past [] (b ∷ bs) e m h = absurd (omega arith)
  count_past (x ∷ us) (true ∷ bs) e m h =
      rw (le-leb u x (h x (Memᴰ.head refl))) (suc-le-suc (count_past us bs (omega arith) m (λ y k. h y (Memᴰ.tail k))))
  count_past (x ∷ us) (false ∷ bs) e m h =
      ⊎_elim (λ p. rw (le-leb u x (le_of_eq p)) (suc-le-suc (count-outside us bs (omega arith) h)))
      (λ k. no_fewer (leb u x) (suc (marked bs)) (count (leb u) us) (count_past us bs (omega arith) k h)) (Memᴰ.cases_cons m)

-- where n are picked, they are such a choice
pub picks-most : (n : ℕ) (us : List ℕ) → marked (picks n us) ≡ n → Most n us (picks n us)
unfolding picks
picks-most n us e = record { size = length-map us _; number = e; above = λ x y m k. go x y (select_true _ us x m) (select_false _ us y k) (dec_lt y x) }
  where
    go : (x y : ℕ) → leb (count (leb x) us) n ≡ true → leb (count (leb y) us) n ≡ false → Dec (y < x) → y < x
    go x y p q (yes h) = h
    go x y p q (no h) = absurd (omega (arith, leb-true (count (leb x) us) n p, leb-false (count (leb y) us) n q, count_falls x y (omega arith) us))

-- and there is no other
pub most-picks : (n : ℕ) (us : List ℕ) (pick : List Bool) → Most n us pick → pick ≡ picks n us
unfolding picks
most-picks n us pick c =
    select_only _ us pick c.size
    (λ x m. le-leb (count (leb x) us) n (omega (arith, count-inside x us pick c.size (λ y k. c.above x y m k), c.number)))
    (λ y k. lt-leb (count (leb y) us) n (omega (arith, count_past y us pick c.size k (λ x m. le_of_lt (c.above x y m k)), c.number)))

-- ---- of a list

pub length-uses : (rows : List ℕ) → length (uses rows) ≡ rank rows
unfolding uses uses_of rank
length-uses rows = length-tabulate (length (kept_rows rows)) _

pub length-picked : (n : ℕ) (rows : List ℕ) → length (picked n rows) ≡ rank rows
unfolding picked picks
length-picked n rows = length-map (uses rows) _ ∙ length-uses rows

-- "If r is n, all kept rows are picked."
module _ (n : ℕ) (rows : List ℕ) (e : rank rows ≡ n) where
  every : (u : ℕ) → leb (count (leb u) (uses rows)) n ≡ true
  every u = le-leb (count (leb u) (uses rows)) n (omega (arith, count_le (leb u) (uses rows), length-uses rows))

  pub all-picked : picked_rows n rows ≡ kept_rows rows
  unfolding picked_rows picked picks
  all-picked = select_every _ every (uses rows) (kept_rows rows) (length-uses rows ∙ unfold rank in refl)

  -- "Looking for a tie when r is n" is a slip: there is none.
  pub no_tie : tie n rows ≡ false
  unfolding tie picked picks
  no_tie = rw (marked_every (λ u. leb (count (leb u) (uses rows)) n) every (uses rows)) (rw (length-uses rows ∙ e) (rw (eq-eqb n n refl)))

  pub not_few : few n rows ≡ false
  unfolding few
  not_few = rw e (le-ltb n n (omega arith))

-- "the n rows with most uses are picked, provided the smallest use inside the pick is greater than the largest outside"
pub tie_never : (n : ℕ) (rows : List ℕ) → tie n rows ≡ false → marked (picked n rows) ≡ n
unfolding tie
tie_never n rows e = eqb-true (marked (picked n rows)) n (not-false (eqb (marked (picked n rows)) n) e)

pub pick_exactly : (n : ℕ) (rows : List ℕ) → (tie n rows ≡ false) ↔ ((pick : List Bool) × Most n (uses rows) pick)
pick_exactly n rows =
    (λ e. (picked n rows, unfold picked in picks-most n (uses rows) (unfold picked in tie_never n rows e)), λ c. none c.0 c.1)
  where
    none : (pick : List Bool) → Most n (uses rows) pick → tie n rows ≡ false
    none pick c = unfold tie picked in rw (eq-eqb (marked (picks n (uses rows))) n (ap marked (sym (most-picks n (uses rows) pick c)) ∙ c.number))

-- and the pick is that set and no other
pub pick_only : (n : ℕ) (rows : List ℕ) (pick : List Bool) → Most n (uses rows) pick → pick ≡ picked n rows
unfolding picked
pick_only n rows pick c = most-picks n (uses rows) pick c

-- so a tie comes exactly when there is no such set
pub tie_exactly : (n : ℕ) (rows : List ℕ) → (tie n rows ≡ true) ↔ ((pick : List Bool) → Most n (uses rows) pick → ⊥)
tie_exactly n rows =
    (λ t pick c. true≢false (sym t ∙ (pick_exactly n rows).1 (pick, c)), λ none. go (tie n rows) refl none)
  where
    go : (b : Bool) → tie n rows ≡ b → ((pick : List Bool) → Most n (uses rows) pick → ⊥) → tie n rows ≡ true
    go true e none = e
    go false e none = let c : (pick : List Bool) × Most n (uses rows) pick = (pick_exactly n rows).0 e in absurd (none c.0 c.1)

-- ---- the picked rows

pub picked-size : (n : ℕ) (rows : List ℕ) → tie n rows ≡ false → length (picked_rows n rows) ≡ n
unfolding picked_rows
picked-size n rows e = length-select (picked n rows) (kept_rows rows) (length-picked n rows ∙ unfold rank in refl) ∙ tie_never n rows e

pub picked-independent : (n : ℕ) (rows : List ℕ) → independent (picked_rows n rows) ≡ true
unfolding picked_rows
picked-independent n rows = select-independent (picked n rows) (kept_rows rows) (kept-independent rows)

pub picked-inside : (n l m : ℕ) (rows : List ℕ) → Below m (map (constraint l) rows) → Below m (map (constraint l) (picked_rows n rows))
unfolding picked_rows kept_rows
picked-inside n l m rows inside =
    rw (← select-map (constraint l) (picked n rows) (select (kept rows) rows)) (rw (← select-map (constraint l) (kept rows) rows)
    (select_below m (picked n rows) (select (kept rows) (map (constraint l) rows)) (select_below m (kept rows) (map (constraint l) rows) inside)))
