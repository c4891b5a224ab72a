-- The rows with role 2, row by row: one alone, the next, and none past the last.
-- Assumes nothing.
use mathlib.Core.Path.{◌≡◌, refl, ap₂, ◌∙◌}
use Prim.Native.Nat.{ℕ, ◌+◌, ◌≤◌, ◌<◌}
use native.Mathlib.Numerals.{add-one}
use mathlib.Core.Bool.{Bool, true, false}
use mathlib.Core.List.{List, [], ◌∷◌, ◌++◌, map}
use lib.Dec.{eqb}
use lib.ListN.{length, drop, get_or, drop_of_length-le}
use lib.Seq.{drop-cons}
use borrow.Author.Tests.{ne_eqb}
use Rattle.space.specs.Lists.{Below, select}
use Rattle.space.proofs.Lists.{select_below}
use Rattle.chosen.specs.Chosen.{chosen}

-- ---- one row

pub chosen-one : (role row : ℕ) → role ≡ 2 → chosen (role ∷ []) (row ∷ []) ≡ row ∷ []
unfolding chosen select
chosen-one role row e = rw e

pub chosen-other : (role row : ℕ) → (role ≡ 2 → ⊥) → chosen (role ∷ []) (row ∷ []) ≡ []
unfolding chosen select
chosen-other role row e = rw (ne_eqb role 2 e)

-- one row with its role, and those behind it
chosen_cons : (role row : ℕ) (roles rows : List ℕ) → chosen (role ∷ roles) (row ∷ rows) ≡ chosen (role ∷ []) (row ∷ []) ++ chosen roles rows
unfolding chosen select
chosen_cons role row roles rows = go (eqb role 2)
  where
    go : (b : Bool) → select (b ∷ map (λ r. eqb r 2) roles) (row ∷ rows) ≡ select (b ∷ []) (row ∷ []) ++ select (map (λ r. eqb r 2) roles) rows
    go true = refl
    go false = refl

chosen_none : (roles : List ℕ) → chosen roles [] ≡ []
unfolding chosen select
chosen_none [] = refl
chosen_none (role ∷ roles) = refl

-- ---- from a row on

module _ (roles rows : List ℕ) (i : ℕ) where
  pub chosen-next : i < length roles → i < length rows
      → chosen (drop i roles) (drop i rows) ≡ chosen (get_or roles i 0 ∷ []) (get_or rows i 0 ∷ []) ++ chosen (drop (i + 1) roles) (drop (i + 1) rows)
  chosen-next h k =
      let a : drop i roles ≡ get_or roles i 0 ∷ drop (i + 1) roles = rw add-one (drop-cons roles i 0 h) in
      let b : drop i rows ≡ get_or rows i 0 ∷ drop (i + 1) rows = rw add-one (drop-cons rows i 0 k) in
      ap₂ chosen a b ∙ chosen_cons (get_or roles i 0) (get_or rows i 0) (drop (i + 1) roles) (drop (i + 1) rows)

  pub chosen_past : length rows ≤ i → chosen (drop i roles) (drop i rows) ≡ []
  chosen_past h = rw (drop_of_length-le rows {i = i} h) (chosen_none (drop i roles))

-- ---- bounds

pub chosen_below : (m : ℕ) (roles rows : List ℕ) → Below m rows → Below m (chosen roles rows)
unfolding chosen
chosen_below m roles rows b = select_below m (map (λ role. eqb role 2) roles) rows b
