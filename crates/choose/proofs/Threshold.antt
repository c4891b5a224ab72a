-- The fewest uses that a picked row can have: the smallest number that at most n of the uses reach, so that the picked are those
-- which reach it. basis/proofs/Parting speaks of document 000's N*.
-- Assumes nothing.
use mathlib.Core.Path.{◌≡◌, refl, sym, ap, fun_ext, ◌∙◌}
use Prim.Native.Nat.{ℕ, suc, ◌+◌, ◌≤◌, ◌<◌}
use native.Mathlib.Nat.{le_refl}
use native.Mathlib.Decide.{dec_le}
use native.Mathlib.Omega.{arith}
use mathlib.Core.Bool.{Bool, true, false, cond, not, true≢false}
use mathlib.Core.List.{List, [], ◌∷◌, map}
use mathlib.Core.Logic.{◌⊎◌, inl, inr, ◌↔◌}
use lib.Dec.{leb}
use borrow.Author.Tests.{le-leb, lt-leb, leb-true, not-true}
use Rattle.space.specs.Lists.{select, marked, count, above, Below}
use Rattle.space.proofs.Lists.{map_both, count-marked, above-least}
use Rattle.doubles.proofs.Doubles.{length_pairs}
use Rattle.reading.specs.Reading.{picks}
use Rattle.reading.proofs.Pick.{select_true}
use Rattle.choose.specs.Pick.{least}
use Rattle.choose.proofs.Counts.{count_mono, count_beyond}

-- the more uses, the fewer have them
count_falls : (t u : ℕ) → t ≤ u → (us : List ℕ) → count (leb u) us ≤ count (leb t) us
count_falls t u h us = count_mono (leb u) (leb t) (λ x e. le-leb t x (omega (arith, leb-true u x e))) us

-- ---- those that fail a test

abbrev outside : (ℕ → Bool) → List ℕ → List ℕ
outside f us = select (map not (map f us)) us

module _ (f : ℕ → Bool) (t : ℕ) where
  -- where all from t on pass, what fails lies below
  above_most : ((u : ℕ) → t ≤ u → f u ≡ true) → (us : List ℕ) → above (outside f us) ≤ t
  above_most h us =
      above-least (outside f us) t (λ u m. go u (not-true (f u) (select_true (λ v. not (f v)) us u (rw (map_both not f _ (λ v. refl) us) at m))) (dec_le t u))
    where
      go : (u : ℕ) → f u ≡ false → Dec (t ≤ u) → u < t
      go u e (yes l) = absurd (true≢false (sym (h u l) ∙ e))
      go u e (no l) = omega arith

  above-tail : (u : ℕ) (us : List ℕ) → above (outside f (u ∷ us)) ≤ t → (above (outside f us) ≤ t) × (t ≤ u → f u ≡ true)
  unfolding above select
  above-tail u us h = go (f u) refl h
    where
      go : (b : Bool) → f u ≡ b → above (select (not b ∷ map not (map f us)) (u ∷ us)) ≤ t → (above (outside f us) ≤ t) × (t ≤ u → f u ≡ true)
      go true e k = (k, λ l. e)
      go false e k = (omega arith, λ l. absurd (omega arith))

  -- the smallest that reaches t passes, if any does
  Nearest : List ℕ → Type 0
  Nearest us = (count (leb t) us ≡ 0) ⊎ ((u : ℕ) × (t ≤ u) × (f u ≡ true) × (count (leb u) us ≡ count (leb t) us))

  nearest : (us : List ℕ) → above (outside f us) ≤ t → Nearest us
  unfolding Nearest count
  nearest [] h = inl refl
  nearest (x ∷ us) h = let k : (above (outside f us) ≤ t) × (t ≤ x → f x ≡ true) = above-tail x us h in go k.1 (dec_le t x) (nearest us k.0)
    where
      further : (u : ℕ) → t ≤ u → f u ≡ true → count (leb u) us ≡ count (leb t) us → (t ≤ x → f x ≡ true) → t ≤ x → Dec (u ≤ x) → Nearest (x ∷ us)
      further u l p e q i (yes g) = inr (u, l, p, rw (le-leb u x g, le-leb t x i) (ap suc e))
      further u l p e q i (no g) = inr (x, i, q i, rw (le-leb x x (le_refl x), le-leb t x i) (omega (arith, count_falls t x i us, count_falls x u (omega arith) us)))

      go : (t ≤ x → f x ≡ true) → Dec (t ≤ x) → Nearest us → Nearest (x ∷ us)
      go q (no g) (inl e) = inl (rw (lt-leb t x (omega arith)) e)
      go q (no g) (inr (u, l, p, e)) = inr (u, l, p, rw (lt-leb u x (omega arith), lt-leb t x (omega arith)) e)
      go q (yes i) (inl e) = inr (x, i, q i, rw (le-leb x x (le_refl x), le-leb t x i) (omega (arith, count_falls t x i us)))
      go q (yes i) (inr (u, l, p, e)) = further u l p e q i (dec_le u x)

-- ---- the fewest uses of a picked row

leb_same : (a b c d : ℕ) → (a ≤ b) ↔ (c ≤ d) → leb a b ≡ leb c d
leb_same a b c d h = go (dec_le a b)
  where
    go : Dec (a ≤ b) → leb a b ≡ leb c d
    go (yes l) = le-leb a b l ∙ sym (le-leb c d (h.0 l))
    go (no l) = lt-leb a b (omega arith) ∙ sym (lt-leb c d (let k : ¬ (c ≤ d) = λ m. l (h.1 m) in omega arith))

module _ (n : ℕ) (us : List ℕ) where
  -- the smallest number that at most n reach
  pub least_exactly : (t : ℕ) → (count (leb t) us ≤ n) ↔ (least n us ≤ t)
  unfolding least picks Nearest
  least_exactly t = (λ h. above_most _ t (λ u l. le-leb (count (leb u) us) n (omega (arith, count_falls t u l us))) us, λ h. go (nearest _ t us h))
    where
      go : Nearest (λ u. leb (count (leb u) us) n) t us → count (leb t) us ≤ n
      go (inl e) = omega arith
      go (inr (u, l, p, e)) = omega (arith, leb-true (count (leb u) us) n p)

  pub least_le : (t : ℕ) → Below t us → least n us ≤ t
  least_le t b = (least_exactly t).0 (omega (arith, count_beyond t us b))

  -- the picked are those that reach it
  pub picks-least : picks n us ≡ map (leb (least n us)) us
  unfolding picks
  picks-least = ap (λ g. map g us) (fun_ext (λ u. leb_same (count (leb u) us) n (least n us) u (least_exactly u)))

  pub marked-least : marked (picks n us) ≡ count (leb (least n us)) us
  marked-least = rw picks-least (count-marked (leb (least n us)) us)

  -- an interval that holds it, halved
  pub least_halved : (low half width r : ℕ) → low ≤ least n us → least n us ≤ low + width → width ≤ half + half + 1
      → r ≡ cond (leb (count (leb (low + half)) us) n) low (low + half + 1) → (r ≤ least n us) × (least n us ≤ r + half)
  least_halved low half width r from to h e = rw e (go (dec_le (count (leb (low + half)) us) n))
    where
      go : Dec (count (leb (low + half)) us ≤ n)
          → (cond (leb (count (leb (low + half)) us) n) low (low + half + 1) ≤ least n us)
          × (least n us ≤ cond (leb (count (leb (low + half)) us) n) low (low + half + 1) + half)
      go (yes l) = rw (le-leb (count (leb (low + half)) us) n l) (from, (least_exactly (low + half)).0 l)
      go (no l) = let k : ¬ (least n us ≤ low + half) = λ m. l ((least_exactly (low + half)).1 m) in
          rw (lt-leb (count (leb (low + half)) us) n (omega arith)) (omega arith, omega arith)

-- what says how many are picked, of the bytes that count the uses
pub ruleset picking = (length_pairs, marked-least)
