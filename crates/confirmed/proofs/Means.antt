-- What being confirmed means: no single misread row can have made the given page wrong. Where every picked row has a use, one misread row does
-- no harm; where one has none, the page with a bit of its payload flipped is one from which only that row is misread.
-- Assumes nothing.
use mathlib.Core.Path.{◌≡◌, refl, sym, ap, ap₂, ◌∙◌}
use Prim.Native.Nat.{ℕ, suc, ◌*◌, ◌^◌, ◌≤◌, ◌<◌}
use native.Mathlib.Nat.{div-eq_of_lt}
use native.Mathlib.Omega.{arith}
use native.Mathlib.Decide.{dec_lt}
use mathlib.Core.Bool.{Bool, true, false, true≢false}
use mathlib.Core.List.{List, ◌∷◌, ◌++◌, map}
use mathlib.Core.Logic.{◌↔◌}
use lib.ListN.{length, get_or, take, drop}
use lib.Pow.{pow-lt}
use lib.Seq.{split_at, length-take-le}
use borrow.Author.Tests.{ltb-false}
use Rattle.space.specs.Lists.{All, Below}
use Rattle.space.specs.Space.{◌⊕◌}
use Rattle.space.proofs.Xor.{⊕_self, ⊕_zero, ⊕_cancel}
use Rattle.rows.specs.Rows.{constraint, agrees}
use Rattle.rows.proofs.Sums.{constraint-⊕}
use Rattle.reading.specs.Reading.{rank, few, picked_rows}
use Rattle.reading.specs.Marks.{telling}
use Rattle.reading.proofs.Page.{length-page_of, page_of_below}
use Rattle.held.specs.Listed.{listed_uses, listed_roles}
use Rattle.held.proofs.Spread.{listed-rows}
use Rattle.confirmed.specs.Confirmed.{confirmed, IsPage, GivesPage, given, Certain, Unused}
use Rattle.confirmed.proofs.Masks.{all_split}
use Rattle.confirmed.proofs.More.{more-confirms}
use Rattle.confirmed.proofs.Marks.{marks_confirmed, alone_at}
use Rattle.confirmed.proofs.Misread.{all_but_one, one-misread-count}
use Rattle.confirmed.proofs.Unconfirmed.{other-agree, other-page}

pub given-page : (n l : ℕ) (rows : List ℕ) → IsPage n l (given n l rows)
given-page n l rows = record { size = length-page_of n l (picked_rows n rows); symbols = page_of_below n l (picked_rows n rows) }

-- a page that is given and not confirmed comes of rank n
unconfirmed_full : (n l : ℕ) (rows : List ℕ) → GivesPage n l rows → confirmed n rows ≡ false → rank rows ≡ n
unconfirmed_full n l rows g c = go (dec_lt n (rank rows))
  where
    at_least : n ≤ rank rows
    at_least = ltb-false (rank rows) n (unfold few in g.enough)

    go : Dec (n < rank rows) → rank rows ≡ n
    go (yes h) = absurd (true≢false (sym (more-confirms n rows h g.chosen) ∙ c))
    go (no h) = omega (arith, at_least)

-- ---- a row without a use

-- a row with the last bit of its payload flipped
module _ (l : ℕ) (wide : 1 ≤ l) (r : ℕ) where
  flipped-constraint : constraint l (r ⊕ 1) ≡ constraint l r
  flipped-constraint = constraint-⊕ l r 1 ∙ ap (λ (x : ℕ). constraint l r ⊕ x) none ∙ ⊕_zero (constraint l r)
    where
      none : constraint l 1 ≡ 0
      none = let some : 0 < 8 * l = omega arith in unfold constraint in div-eq_of_lt (pow-lt some)

  flipped_differs : r ⊕ 1 ≡ r → ⊥
  flipped_differs e = let none : ◌≡◌ {A = ℕ} 1 0 = sym (⊕_cancel r 1) ∙ ap (λ (x : ℕ). r ⊕ x) e ∙ ⊕_self r in omega arith

denied : (n l : ℕ) → 1 ≤ l → (before : List ℕ) (r : ℕ) (after : List ℕ) → Below (2 ^ n) (map (constraint l) (before ++ r ∷ after))
    → GivesPage n l (before ++ r ∷ after) → rank (before ++ r ∷ after) ≡ n → Unused before r after → Certain n l (before ++ r ∷ after) → ⊥
denied n l wide before r after inside g full u only =
    flipped_differs l wide r (other-page n l before r after inside g full u (r ⊕ 1) (flipped-constraint l wide r) (sym found))
  where
    agree : All (agrees l (given n l (before ++ r ⊕ 1 ∷ after))) before × All (agrees l (given n l (before ++ r ⊕ 1 ∷ after))) (r ⊕ 1 ∷ after)
    agree = all_split _ before (r ⊕ 1 ∷ after) (other-agree n l before r after inside g full u (r ⊕ 1) (flipped-constraint l wide r))

    found : given n l (before ++ r ∷ after) ≡ given n l (before ++ r ⊕ 1 ∷ after)
    found = only (given n l (before ++ r ⊕ 1 ∷ after)) (given-page n l (before ++ r ⊕ 1 ∷ after)) (all_but_one l before r after _ agree.0 agree.1.1)

-- ---- a given page is confirmed exactly when no single misread row can have made it wrong

module _ (n l : ℕ) (rows : List ℕ) (wide : 1 ≤ l) (inside : Below (2 ^ n) (map (constraint l) rows)) (g : GivesPage n l rows) where
  denied_at : confirmed n rows ≡ false → Certain n l rows → ⊥
  denied_at c = go (take i.0 rows) (get_or rows i.0 0) (drop (suc i.0) rows) (split_at rows i.0 0 place) (length-take-le i.0 rows (omega (arith, place)))
    where
      i : (i : ℕ) × (i < length (listed_uses rows)) × (get_or (listed_uses rows) i 65535 ≡ 0)
      i = alone_at (listed_roles telling n rows) (listed_uses rows) (marks_confirmed n rows ∙ c)

      place : i.0 < length rows
      place = omega (arith, i.1, listed-rows rows)

      at : (before : List ℕ) (r : ℕ) (after : List ℕ) → Unused before r after → (rs : List ℕ) → rs ≡ before ++ r ∷ after → Below (2 ^ n) (map (constraint l) rs)
          → GivesPage n l rs → rank rs ≡ n → Certain n l rs → ⊥
      at before r after u rs e = rw e (λ b p f. denied n l wide before r after b p f u)

      go : (before : List ℕ) (r : ℕ) (after : List ℕ) → rows ≡ before ++ r ∷ after → length before ≡ i.0 → Certain n l rows → ⊥
      go before r after e size =
          let u : Unused before r after = ap₂ (λ (rs : List ℕ) (m : ℕ). get_or (listed_uses rs) m 65535) (sym e) size ∙ i.2 in
          at before r after u rows e inside g (unconfirmed_full n l rows g c)

  pub confirmed_means : (confirmed n rows ≡ true) ↔ Certain n l rows
  confirmed_means = (one-misread-count n l rows inside g, λ only. go (confirmed n rows) refl only)
    where
      go : (b : Bool) → confirmed n rows ≡ b → Certain n l rows → confirmed n rows ≡ true
      go true e only = e
      go false e only = absurd (denied_at e only)
