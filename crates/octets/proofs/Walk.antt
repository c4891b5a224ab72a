-- A walk over the whole rows of a list, w bytes each: where the next row lies, and what is left of the rows behind it.
-- Assumes nothing.
use mathlib.Core.Path.{◌≡◌, sym, ap, ◌∙◌}
use Prim.Native.Nat.{ℕ, suc, ◌+◌, ◌-◌, ◌*◌, ◌/◌, ◌≤◌, ◌<◌}
use native.Mathlib.Nat.{zero-mul, suc-mul, mul-le-mul_right, div-add-mod'}
use native.Mathlib.Numerals.{add-one}
use native.Mathlib.Omega.{arith}
use mathlib.Core.List.{List, [], ◌∷◌}
use lib.ListN.{length, take, drop}
use lib.Seq.{drop-drop}
use Rattle.octets.specs.Octets.{number, numbers}
use Rattle.octets.proofs.Views.{length_part}

-- at row i, which begins at byte at
pub record Walk (w : ℕ) (list : List ℕ) (i at : ℕ) : Type 0 where
  pub within : i ≤ length list / w
  pub place : at ≡ i * w

-- the rows from there on
abbrev pub rest_in : ℕ → List ℕ → ℕ → ℕ → List ℕ
rest_in w list i at = numbers w (length list / w - i) (drop at list)

pub walk_start : (w : ℕ) (list : List ℕ) → Walk w list 0 0
walk_start w list = record { within = omega arith; place = sym (zero-mul w) }

pub rest_all : (w : ℕ) (list : List ℕ) → rest_in w list 0 0 ≡ numbers w (length list / w) list
rest_all w list = ap (λ (m : ℕ). numbers w m list) (omega arith)

module _ (w : ℕ) (list : List ℕ) (i at : ℕ) (W : Walk w list i at) where
  module _ (h : i < length list / w) where
    pub walk_room : at + w ≤ length list
    walk_room = omega (arith, W.place, suc-mul i w, mul-le-mul_right w h, div-add-mod' (length list) w)

    pub walk_more : Walk w list (i + 1) (at + w)
    walk_more = record { within = omega arith; place = ap (λ (a : ℕ). a + w) W.place ∙ sym (ap (λ (j : ℕ). j * w) (add-one i) ∙ suc-mul i w) }

    pub rest_more : rest_in w list i at ≡ number (take (at + w - at) (drop at list)) ∷ rest_in w list (i + 1) (at + w)
    unfolding numbers
    rest_more =
        let one : length list / w - i ≡ suc (length list / w - (i + 1)) = omega arith in
        let wide : at + w - at ≡ w = omega arith in
        rw (one, wide, drop-drop w at list)

    pub row-size : length (take (at + w - at) (drop at list)) ≡ w
    row-size = let wide : at + w - at ≡ w = omega arith in rw wide (length_part w at list walk_room)

  pub rest_none : length list / w ≤ i → rest_in w list i at ≡ []
  unfolding numbers
  rest_none h = let none : length list / w - i ≡ 0 = omega arith in rw none
