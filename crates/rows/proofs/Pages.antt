-- The rows that a page gives: making one is a one-to-one map that respects sums, and a row that agrees with a page is the one it gives.
-- Assumes nothing.
use mathlib.Core.Path.{◌≡◌, refl, sym, ap, ap₂, ◌∙◌}
use Prim.Native.Nat.{ℕ, ◌+◌, ◌*◌, ◌/◌, ◌%◌, ◌^◌, ◌≤◌}
use native.Mathlib.Nat.{div-eq_of_lt, mul-div_cancel}
use mathlib.Core.Bool.{true}
use mathlib.Core.List.{List, [], ◌∷◌, map}
use lib.Bits.{bit_xor, xor_block}
use lib.Pow.{high, low, split}
use lib.ListN.{length}
use borrow.Author.Tests.{eqb-true, eq-eqb}
use Rattle.space.specs.Space.{◌⊕◌, independent}
use Rattle.space.specs.Lists.{Below, All}
use Rattle.space.proofs.Linear.{map-independent}
use Rattle.space.proofs.SumBy.{sum_by-⊕, sum_by_lt}
use Rattle.octets.specs.Octets.{flat}
use Rattle.octets.proofs.Runs.{length-numbers, numbers-small, flat-numbers}
use Rattle.rows.specs.Rows.{symbols, constraint, payload, named, agrees, made}
use Rattle.rows.specs.Bytes.{cut}
use Rattle.rows.proofs.Sums.{constraint_zero}

pub length_symbols : (n l : ℕ) (page : List ℕ) → length (symbols n l page) ≡ n
unfolding symbols
length_symbols n l page = length-numbers l n page

-- of a page of any length
pub symbols-small : (n l : ℕ) (page : List ℕ) → Below 256 page → Below (2 ^ (8 * l)) (symbols n l page)
unfolding symbols
symbols-small n l page b = numbers-small l n page b

pub symbols_below : (n l : ℕ) (page : List ℕ) → length page ≡ n * l → Below 256 page → Below (2 ^ (8 * l)) (symbols n l page)
symbols_below n l page size b = symbols-small n l page b

-- the symbols of a page, as bytes, are the page
pub flat-symbols : (n l : ℕ) (page : List ℕ) → length page ≡ n * l → Below 256 page → flat l (symbols n l page) ≡ page
unfolding symbols
flat-symbols n l page size b = flat-numbers l n page size b

-- a page of whole symbols is cut into those
pub cut-symbols : (n l : ℕ) (page : List ℕ) → 1 ≤ l → length page ≡ n * l → cut l page ≡ symbols n l page
cut-symbols n l page low e =
    let count : length page / l ≡ n = rw e (mul-div_cancel n low) in
    ap (λ (m : ℕ). symbols m l page) count

module _ (l : ℕ) (page : List ℕ) (b : Below (2 ^ (8 * l)) page) where
  pub named-constraint : (c : ℕ) → constraint l (named page c) ≡ 0
  unfolding constraint
  named-constraint c = div-eq_of_lt (sum_by_lt (8 * l) page b c)

  pub made-⊕ : (a c : ℕ) → made l page (a ⊕ c) ≡ made l page a ⊕ made l page c
  unfolding made ◌⊕◌
  made-⊕ a c =
      ap (λ (x : ℕ). bit_xor a c * 2 ^ (8 * l) + x) (sum_by-⊕ page a c)
      ∙ sym (xor_block (8 * l) a c (named page a) (named page c) (sum_by_lt (8 * l) page b a) (sum_by_lt (8 * l) page b c))

  pub made-constraint : (c : ℕ) → constraint l (made l page c) ≡ c
  unfolding made constraint
  made-constraint c = high c (8 * l) (sum_by_lt (8 * l) page b c)

  pub made-payload : (c : ℕ) → payload l (made l page c) ≡ named page c
  unfolding made payload
  made-payload c = low c (8 * l) (sum_by_lt (8 * l) page b c)

  pub made_inj : (c : ℕ) → made l page c ≡ 0 → c ≡ 0
  made_inj c e = sym (made-constraint c) ∙ ap (constraint l) e ∙ constraint_zero l

  -- a made row agrees with its page
  pub made-agrees : (c : ℕ) → agrees l page (made l page c) ≡ true
  unfolding agrees
  made-agrees c = rw (made-payload c) (rw (made-constraint c) (eq-eqb (named page c) (named page c) refl))

-- a row that agrees with a page is the one that the page gives for its constraint
pub agrees-made : (l : ℕ) (page : List ℕ) (row : ℕ) → agrees l page row ≡ true → made l page (constraint l row) ≡ row
unfolding agrees made constraint payload
agrees-made l page row h = rw (← eqb-true (row % 2 ^ (8 * l)) (named page (row / 2 ^ (8 * l))) h) (split row (8 * l))

pub all_made : (l : ℕ) (page rows : List ℕ) → All (agrees l page) rows → map (made l page) (map (constraint l) rows) ≡ rows
all_made l page [] a = refl
all_made l page (r ∷ rows) a = ap₂ (λ x t. x ∷ t) (agrees-made l page r a.0) (all_made l page rows a.1)

pub all-payloads : (l : ℕ) (page rows : List ℕ) → All (agrees l page) rows → map (payload l) rows ≡ map (named page) (map (constraint l) rows)
unfolding agrees
all-payloads l page [] a = refl
all-payloads l page (r ∷ rows) a = ap₂ (λ x t. x ∷ t) (eqb-true (payload l r) (named page (constraint l r)) a.0) (all-payloads l page rows a.1)

-- rows that agree with one page are independent exactly when their constraints are
pub agree-independent : (l : ℕ) (page : List ℕ) → Below (2 ^ (8 * l)) page → (rows : List ℕ) → All (agrees l page) rows
    → independent (map (constraint l) rows) ≡ independent rows
agree-independent l page b rows a =
    sym (map-independent (made l page) (made-⊕ l page b) (made_inj l page b) (map (constraint l) rows)) ∙ ap independent (all_made l page rows a)
