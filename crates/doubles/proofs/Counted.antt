-- Counting along the places of a run of pairs counts the pairs.
-- Assumes nothing.
use mathlib.Core.Path.{◌≡◌, sym, ap, ◌∙◌}
use Prim.Native.Nat.{ℕ, zero, suc, ◌+◌, ◌/◌}
use native.Mathlib.Numerals.{add-one}
use native.Mathlib.Omega.{arith}
use mathlib.Core.Bool.{Bool, true, false, cond}
use mathlib.Core.List.{List, ◌∷◌}
use lib.ListN.{length, drop, get_or}
use lib.Seq.{drop-cons, drop-length}
use Rattle.std.specs.List.{filter, range_with_len}
use Rattle.space.specs.Lists.{count}
use Rattle.doubles.specs.Doubles.{pairs_in, pair_at}
use Rattle.doubles.proofs.Doubles.{length_pairs}

module _ (p : ℕ → Bool) (xs : List ℕ) where
  abbrev here : ℕ → Bool
  here i = p (get_or xs i 0)

  counted_from : (n i : ℕ) → i + n ≡ length xs → length (filter here (range_with_len i n)) ≡ count p (drop i xs)
  unfolding count
  counted_from zero i e =
      let end : i ≡ length xs = omega arith in
      sym (ap (count p) (ap (λ j. drop j xs) end ∙ drop-length xs))
  counted_from (suc n) i e = rw (drop-cons xs i 0 (omega arith)) (go (here i) (counted_from n (i + 1) (omega arith) ∙ ap (λ j. count p (drop j xs)) (add-one i)))
    where
      go : (b : Bool) → length (filter here (range_with_len (i + 1) n)) ≡ count p (drop (suc i) xs)
          → length (cond b (i ∷ filter here (range_with_len (i + 1) n)) (filter here (range_with_len (i + 1) n))) ≡ cond b (suc (count p (drop (suc i) xs))) (count p (drop (suc i) xs))
      go true h = ap suc h
      go false h = h

pub counted_pairs : (p : ℕ → Bool) (bs : List ℕ) → length (filter (λ i. p (pair_at i bs)) (range_with_len 0 (length bs / 2))) ≡ count p (pairs_in bs)
counted_pairs p bs = counted_from p (pairs_in bs) (length bs / 2) 0 (omega (arith, length_pairs bs))
