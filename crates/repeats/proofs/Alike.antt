-- Runs of as many bytes are equal exactly when their numbers are: so entries are told apart by any eight bytes in which they differ, and by their first four.
-- Assumes nothing.
use mathlib.Core.Path.{◌≡◌, refl, sym, ap, ap₂, ◌∙◌}
use mathlib.Core.Bool.{Bool, true, false}
use mathlib.Core.List.{List, ◌++◌}
use Prim.Native.Nat.{ℕ, ◌+◌, ◌≤◌}
use native.Mathlib.Omega.{arith}
use lib.Dec.{eqb}
use lib.ListN.{length, take, drop}
use lib.Seq.{take-add, take_all, take-take}
use borrow.Author.Tests.{eq-eqb, ne_eqb, eqb-true, eqb-false}
use Rattle.space.specs.Lists.{Below}
use Rattle.octets.specs.Octets.{number, bytes}
use Rattle.octets.proofs.Numbers.{bytes-number}
use Rattle.octets.proofs.Runs.{below_parts}
use Rattle.octets.proofs.Parts.{part-long}
use Rattle.words.specs.Words.{four_of}
use Rattle.littles.specs.Littles.{little_at, little_bytes}
use Rattle.littles.proofs.Littles.{little_inside, little_bytes-little_of}

number-one : (a b : List ℕ) → length a ≡ length b → Below 256 a → Below 256 b → number a ≡ number b → a ≡ b
number-one a b e p q h = sym (bytes-number a p) ∙ ap₂ (λ (w x : ℕ). bytes w x) e h ∙ bytes-number b q

module _ (a b : List ℕ) (e : length a ≡ length b) (p : Below 256 a) (q : Below 256 b) where
  -- told apart by whatever is made of their bytes
  unequal_by : (f : List ℕ → ℕ) → (f a ≡ f b → ⊥) → false ≡ eqb (number a) (number b)
  unequal_by f h = sym (ne_eqb (number a) (number b) (λ k. h (ap f (number-one a b e p q k))))

  pub unequal_at : (i : ℕ) → (little_at i a ≡ little_at i b → ⊥) → false ≡ eqb (number a) (number b)
  unequal_at i = unequal_by (little_at i)

  pub unequal_four : (four_of a ≡ four_of b → ⊥) → false ≡ eqb (number a) (number b)
  unequal_four = unequal_by four_of

  -- the same eight bytes from an index on
  same_eight : (i : ℕ) → i + 8 ≤ length a → little_at i a ≡ little_at i b → take 8 (drop i a) ≡ take 8 (drop i b)
  same_eight i h s =
      sym (little_bytes-little_of (take 8 (drop i a)) (part_below a p))
      ∙ ap₂ little_bytes (part-long i 8 a h ∙ sym (part-long i 8 b (omega arith))) (sym (little_inside i a h) ∙ s ∙ little_inside i b (omega arith))
      ∙ little_bytes-little_of (take 8 (drop i b)) (part_below b q)
    where
      part_below : (v : List ℕ) → Below 256 v → Below 256 (take 8 (drop i v))
      part_below v r = (below_parts 256 8 (drop i v) (below_parts 256 i v r).1).0

-- The loop of `equal`: before each turn the first i bytes are the same.
pub record Alike (a b : List ℕ) (i : ℕ) : Type 0 where
  pub within : i ≤ length a
  pub first : take i a ≡ take i b

pub alike_start : (a b : List ℕ) → Alike a b 0
alike_start a b = record { within = omega arith; first = refl }

module _ (a b : List ℕ) (e : length a ≡ length b) (p : Below 256 a) (q : Below 256 b) (i : ℕ) (A : Alike a b i) where
  pub alike_more : i + 8 ≤ length a → little_at i a ≡ little_at i b → Alike a b (i + 8)
  alike_more h s = record {
    within = h;
    first = take-add i 8 a ∙ ap₂ (λ (f t : List ℕ). f ++ t) A.first (same_eight a b e p q i h s) ∙ sym (take-add i 8 b);
  }

  -- no more than eight are left: the last eight tell
  module _ (last : ℕ) (wide : last + 8 ≡ length a) (h : last ≤ i) where
    front : take last a ≡ take last b
    front = sym (take-take last i a h) ∙ ap (take last) A.first ∙ take-take last i b h

    all : little_at last a ≡ little_at last b → a ≡ b
    all s =
        sym (take_all (last + 8) a (omega arith)) ∙ take-add last 8 a ∙ ap₂ (λ (f t : List ℕ). f ++ t) front (same_eight a b e p q last (omega arith) s)
        ∙ sym (take-add last 8 b) ∙ take_all (last + 8) b (omega arith)

    pub alike_end : eqb (little_at last a) (little_at last b) ≡ eqb (number a) (number b)
    alike_end = go (eqb (little_at last a) (little_at last b)) refl
      where
        go : (c : Bool) → eqb (little_at last a) (little_at last b) ≡ c → c ≡ eqb (number a) (number b)
        go true s = sym (eq-eqb (number a) (number b) (ap number (all (eqb-true _ _ s))))
        go false s = unequal_at a b e p q last (eqb-false _ _ s)
