-- The loop that counts along a list: where it starts, what a turn does, what it leaves.
-- Assumes nothing.
use mathlib.Core.Path.{◌≡◌, refl, sym, ap, ◌∙◌}
use Prim.Native.Nat.{ℕ, suc, ◌+◌, ◌≤◌, ◌<◌}
use native.Mathlib.Numerals.{add-one}
use native.Mathlib.Omega.{arith}
use mathlib.Core.Bool.{Bool, true, false, cond}
use mathlib.Core.List.{List}
use lib.ListN.{length, take, get_or}
use lib.Seq.{take-suc, take_all}
use mir.Val.{bool_byte}
use Rattle.space.specs.Lists.{count}
use Rattle.space.proofs.Lists.{count-snoc}

count_next : (p : ℕ → Bool) (xs : List ℕ) (i : ℕ) → i < length xs → count p (take (i + 1) xs) ≡ count p (take i xs) + bool_byte (p (get_or xs i 0))
count_next p xs i h = rw (add-one i, take-suc xs i 0 h, count-snoc p (take i xs) (get_or xs i 0)) (go (p (get_or xs i 0)))
  where
    go : (b : Bool) → cond b (suc (count p (take i xs))) (count p (take i xs)) ≡ count p (take i xs) + bool_byte b
    go true = omega arith
    go false = omega arith

-- A loop that counts along a list, at turn i.
pub record Counting (p : ℕ → Bool) (xs : List ℕ) (sum i : ℕ) : Type 0 where
  pub within : i ≤ length xs
  pub most : sum ≤ i
  pub holds : sum ≡ count p (take i xs)

pub counting-start : (p : ℕ → Bool) (xs : List ℕ) → Counting p xs 0 0
unfolding count
counting-start p xs = record { within = omega arith; most = omega arith; holds = refl }

module _ (p : ℕ → Bool) (xs : List ℕ) (sum i : ℕ) (counting : Counting p xs sum i) where
  pub counting_more : i < length xs → (b : Bool) → b ≡ p (get_or xs i 0) → Counting p xs (sum + bool_byte b) (i + 1)
  counting_more h b e = record {
    within = omega arith;
    most = omega (arith, counting.most, at_most b);
    holds = rw (counting.holds, e) (sym (count_next p xs i h));
  }
    where
      at_most : (b : Bool) → bool_byte b ≤ 1
      at_most true = omega arith
      at_most false = omega arith

  pub counting_end : length xs ≤ i → sum ≡ count p xs
  counting_end h = counting.holds ∙ ap (count p) (take_all i xs h)
