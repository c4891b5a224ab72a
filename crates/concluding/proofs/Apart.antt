-- Lists that have no number twice: those of such a list that stand among some of its own numbers are these, in another order.
-- Assumes nothing.
use mathlib.Core.Path.{◌≡◌, refl, sym, ap, ◌∙◌}
use Prim.Native.Nat.{ℕ, suc}
use mathlib.Core.Bool.{Bool, true, false, cond, ◌||◌}
use mathlib.Core.List.Memᴰ
use mathlib.Core.List.{List, [], ◌∷◌, map, Memᴰ}
use lib.Dec.{eqb}
use lib.ListN.{length, length-map}
use borrow.Author.Tests.{eqb-true, eqb-false, eq-eqb, ne_eqb}
use Rattle.space.specs.Lists.{select, count, All}
use Rattle.space.proofs.Lists.{length-select, count_none, count-marked, all_at}
use Rattle.reading.specs.Orders.{among}
use Rattle.reading.proofs.Among.{among_mem, mem_among}
use Rattle.same_page.specs.SameRows.{SameRows}
use Rattle.holding.specs.Holds.{Distinct}

-- ---- those that pass a test

passing : (p : ℕ → Bool) (xs : List ℕ) → All p (select (map p xs) xs)
unfolding select
passing p [] = tt
passing p (x ∷ xs) = go (p x) refl (passing p xs)
  where
    go : (b : Bool) → p x ≡ b → All p (select (map p xs) xs) → All p (select (b ∷ map p xs) (x ∷ xs))
    go true e ih = (e, ih)
    go false e ih = ih

passes : (p : ℕ → Bool) (xs : List ℕ) (a : ℕ) → Memᴰ a xs → p a ≡ true → Memᴰ a (select (map p xs) xs)
unfolding select
passes p [] a x'' h = elim x'' [ ]
passes p (x ∷ xs) a (Memᴰ.head e) h = rw (← e, h) (Memᴰ.head refl)
passes p (x ∷ xs) a (Memᴰ.tail m) h = go (p x) (passes p xs a m h)
  where
    go : (b : Bool) → Memᴰ a (select (map p xs) xs) → Memᴰ a (select (b ∷ map p xs) (x ∷ xs))
    go true k = Memᴰ.tail k
    go false k = k

-- ---- how many there are

-- one number more is asked for
count-more : (xs : List ℕ) → Distinct xs → (f : ℕ → Bool) (b : ℕ) → f b ≡ false → count (λ a. eqb a b || f a) xs ≡ cond (among xs b) (suc (count f xs)) (count f xs)
unfolding count among
count-more [] d f b h = refl
count-more (x ∷ xs) d f b h = go (eqb x b) refl (among xs b) refl (f x) refl (count-more xs d.1 f b h)
  where
    go : (p : Bool) → eqb x b ≡ p → (q : Bool) → among xs b ≡ q → (r : Bool) → f x ≡ r → count (λ a. eqb a b || f a) xs ≡ cond q (suc (count f xs)) (count f xs)
        → cond (p || r) (suc (count (λ a. eqb a b || f a) xs)) (count (λ a. eqb a b || f a) xs)
        ≡ cond (eqb b x || q) (suc (cond r (suc (count f xs)) (count f xs))) (cond r (suc (count f xs)) (count f xs))
    go true i q j r k ih =
        let e : x ≡ b = eqb-true x b i in
        rw (eq-eqb b x (sym e), sym k ∙ ap f e ∙ h) (ap suc (ih ∙ rw (sym j ∙ ap (among xs) (sym e) ∙ d.0)))
    go false i q j r k ih = rw (ne_eqb b x (λ e. eqb-false x b i (sym e))) (turned q r ih)
      where
        turned : (q r : Bool) → count (λ a. eqb a b || f a) xs ≡ cond q (suc (count f xs)) (count f xs)
            → cond r (suc (count (λ a. eqb a b || f a) xs)) (count (λ a. eqb a b || f a) xs)
            ≡ cond q (suc (cond r (suc (count f xs)) (count f xs))) (cond r (suc (count f xs)) (count f xs))
        turned true true e = ap suc e
        turned true false e = e
        turned false true e = ap suc e
        turned false false e = e

count-among : (xs bs : List ℕ) → Distinct xs → Distinct bs → ((a : ℕ) → Memᴰ a bs → Memᴰ a xs) → count (among bs) xs ≡ length bs
unfolding among
count-among xs [] d c own = count_none xs
count-among xs (b ∷ bs) d c own =
    count-more xs d (among bs) b c.0 ∙ rw (mem_among (own b (Memᴰ.head refl))) (ap suc (count-among xs bs d c.1 (λ a m. own a (Memᴰ.tail m))))

-- those that stand among some of its own are these
pub same_among : (xs bs : List ℕ) → Distinct xs → Distinct bs → ((a : ℕ) → Memᴰ a bs → Memᴰ a xs) → SameRows (select (map (among bs) xs) xs) bs
same_among xs bs d c own = record {
  size = length-select (map (among bs) xs) xs (length-map xs (among bs)) ∙ count-marked (among bs) xs ∙ count-among xs bs d c own;
  there = λ a m. among_mem bs a (all_at (among bs) (select (map (among bs) xs) xs) (passing (among bs) xs) a m);
  back = λ a m. passes (among bs) xs a (own a m) (mem_among m);
}

-- and so is what stands at them
pub same_at : (f : ℕ → ℕ) (ps qs : List ℕ) → SameRows ps qs → SameRows (map f ps) (map f qs)
same_at f ps qs same = record {
  size = length-map ps f ∙ same.size ∙ sym (length-map qs f);
  there = λ r m. let k = Memᴰ.of_map f ps m in Memᴰ.cast (sym k.2) (Memᴰ.map f (same.there k.0 k.1));
  back = λ r m. let k = Memᴰ.of_map f qs m in Memᴰ.cast (sym k.2) (Memᴰ.map f (same.back k.0 k.1));
}
