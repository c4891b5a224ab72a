-- A pick is confirmed exactly when each of its rows has a use; where the rank is over n it always is, since a row left out has fewer uses.
-- Assumes nothing.
use mathlib.Core.Path.{◌≡◌, refl, sym, ap, ◌∙◌}
use Prim.Native.Nat.{ℕ, zero, suc, ◌<◌}
use native.Mathlib.Omega.{arith}
use mathlib.Core.Bool.{true, false, not}
use mathlib.Core.List.{List, [], ◌∷◌, map, Memᴰ}
use mathlib.Core.Logic.{◌↔◌}
use lib.Dec.{eqb, leb}
use borrow.Author.Tests.{eqb-true, eq-eqb, ne_eqb, le-leb}
use Rattle.space.specs.Lists.{select, count, All}
use Rattle.space.proofs.Lists.{all_in}
use Rattle.reading.specs.Reading.{rank, uses, picked, tie}
use Rattle.reading.specs.Properties.{Most}
use Rattle.reading.proofs.Pick.{picks-most, tie_never, length-uses, length-picked}
use Rattle.confirmed.specs.Confirmed.{confirmed}
use Rattle.confirmed.proofs.Counts.{none_pass, pass_none}
use Rattle.confirmed.proofs.Masks.{left_out}

used_leb : (u : ℕ) → not (eqb 0 u) ≡ leb 1 u
used_leb zero = refl
used_leb (suc u) = ap not (ne_eqb 0 (suc u) (λ e. omega arith)) ∙ sym (le-leb 1 (suc u) (omega arith))

all-used : (us : List ℕ) → All (λ u. not (eqb 0 u)) us → All (leb 1) us
all-used [] a = tt
all-used (u ∷ us) a = (sym (used_leb u) ∙ a.0, all-used us a.1)

used_all : (us : List ℕ) → All (leb 1) us → All (λ u. not (eqb 0 u)) us
used_all [] a = tt
used_all (u ∷ us) a = (used_leb u ∙ a.0, used_all us a.1)

pub confirmed_exactly : (n : ℕ) (rows : List ℕ) → (confirmed n rows ≡ true) ↔ All (leb 1) (select (picked n rows) (uses rows))
unfolding confirmed
confirmed_exactly n rows = (
  λ c. all-used (select (picked n rows) (uses rows)) (none_pass (eqb 0) (select (picked n rows) (uses rows)) (eqb-true (count (eqb 0) (select (picked n rows) (uses rows))) 0 c)),
  λ a. eq-eqb (count (eqb 0) (select (picked n rows) (uses rows))) 0 (pass_none (eqb 0) (select (picked n rows) (uses rows)) (used_all (select (picked n rows) (uses rows)) a)),
)

-- with a rank over n and no tie
pub more-confirms : (n : ℕ) (rows : List ℕ) → n < rank rows → tie n rows ≡ false → confirmed n rows ≡ true
more-confirms n rows more none =
    (confirmed_exactly n rows).1 (all_in (leb 1) (select (picked n rows) (uses rows)) (λ u m. le-leb 1 u (omega (arith, most.above u out.0 m out.1))))
  where
    most : Most n (uses rows) (picked n rows)
    most = unfold picked in picks-most n (uses rows) (unfold picked in tie_never n rows none)

    out : (y : ℕ) × Memᴰ y (select (map not (picked n rows)) (uses rows))
    out = left_out (picked n rows) (uses rows) (length-picked n rows ∙ sym (length-uses rows)) (omega (arith, tie_never n rows none, length-uses rows))
