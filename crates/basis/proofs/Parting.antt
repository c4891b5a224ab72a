-- Line 26: a number N* with exactly n kept rows of N* uses or more is there exactly when n rows are picked, and they are those rows.
-- N* is one above the largest use left out, or 0; the other way, rows of N* uses or more have more than all others.
-- Assumes nothing.
use mathlib.Core.Path.{◌≡◌, refl, sym, ap, ◌∙◌}
use Prim.Native.Nat.{ℕ, suc, ◌≤◌, ◌<◌}
use native.Mathlib.Omega.{arith}
use mathlib.Core.Bool.{Bool, true, false, not}
use mathlib.Core.List.{List, [], ◌∷◌, map, Memᴰ}
use mathlib.Core.Logic.{◌↔◌}
use lib.Dec.{leb}
use lib.ListN.{length, length-map}
use borrow.Author.Tests.{le-leb, lt-leb, leb-true, leb-false, not-true}
use Rattle.space.specs.Lists.{select, marked, count, above}
use Rattle.space.proofs.Lists.{map_both, count-marked, above-each, above-least}
use Rattle.reading.specs.Reading.{uses, picked, tie}
use Rattle.reading.specs.Properties.{Most}
use Rattle.reading.proofs.Pick.{select_true, pick_exactly, pick_only}
use Rattle.basis.specs.Algorithm2.{Parting}

-- a choice by a bound
count_choice : (k : ℕ) (us : List ℕ) (bs : List Bool) → length bs ≡ length us → ((x : ℕ) → Memᴰ x (select bs us) → k ≤ x)
    → ((y : ℕ) → Memᴰ y (select (map not bs) us) → y < k) → count (leb k) us ≡ marked bs
unfolding count marked select
count_choice k [] [] e h g = refl
count_choice k [] (b ∷ bs) e h g = absurd (omega arith)
count_choice k (u ∷ us) [] e h g = absurd (omega arith)
count_choice k (u ∷ us) (true ∷ bs) e h g =
    rw (le-leb k u (h u (Memᴰ.head refl))) (ap suc (count_choice k us bs (omega arith) (λ x m. h x (Memᴰ.tail m)) g))
count_choice k (u ∷ us) (false ∷ bs) e h g =
    rw (lt-leb k u (g u (Memᴰ.head refl))) (count_choice k us bs (omega arith) h (λ y m. g y (Memᴰ.tail m)))

-- where n are picked, one above the largest use left out is such a number
most_parting : (n : ℕ) (us : List ℕ) (pick : List Bool) → Most n us pick → Parting n us (above (select (map not pick) us))
most_parting n us pick c =
    count_choice (above (select (map not pick) us)) us pick c.size (λ x m. above-least (select (map not pick) us) x (λ y k. c.above x y m k))
    (λ y k. above-each (select (map not pick) us) y k) ∙ c.number

-- and the rows of as many uses or more are the pick
parting_most : (n : ℕ) (us : List ℕ) (least : ℕ) → Parting n us least → Most n us (map (leb least) us)
parting_most n us least e =
    record {
      size = length-map us (leb least);
      number = count-marked (leb least) us ∙ e;
      above = λ x y m k. omega (
        arith,
        leb-true least x (select_true (leb least) us x m),
        leb-false least y (not-true (leb least y) (select_true (λ u. not (leb least u)) us y (rw (map_both not (leb least) _ (λ u. refl) us) at k))),
      );
    }

pub parting_exactly : (n : ℕ) (rows : List ℕ) → (tie n rows ≡ false) ↔ ((least : ℕ) × Parting n (uses rows) least)
parting_exactly n rows = (
  λ e. let c : (pick : List Bool) × Most n (uses rows) pick = (pick_exactly n rows).0 e in
      (above (select (map not c.0) (uses rows)), most_parting n (uses rows) c.0 c.1),
  λ p. (pick_exactly n rows).1 (map (leb p.0) (uses rows), parting_most n (uses rows) p.0 p.1),
)

-- line 27: the picked rows are those of N* uses or more
pub parting_picks : (n : ℕ) (rows : List ℕ) (least : ℕ) → Parting n (uses rows) least → picked n rows ≡ map (leb least) (uses rows)
parting_picks n rows least e = sym (pick_only n rows (map (leb least) (uses rows)) (parting_most n (uses rows) least e))
