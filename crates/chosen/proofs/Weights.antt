-- What rows add to the count is n exactly where they are n and none strays; and the sum row by row.
-- Assumes nothing.
use mathlib.Core.Path.{◌≡◌, refl, sym, ap, ◌∙◌}
use Prim.Native.Nat.{ℕ, zero, suc, ◌+◌, ◌*◌, ◌≤◌, ◌<◌}
use native.Mathlib.Nat.{zero-add, add_assoc}
use native.Mathlib.Omega.{arith}
use mathlib.Core.Bool.{Bool, true, false, cond, ◌&&◌, and-false, and-true}
use mathlib.Core.List.{List, [], ◌∷◌, ◌++◌}
use lib.Dec.{eqb}
use lib.ListN.{length, drop, get_or}
use borrow.Author.Tests.{ne_eqb}
use Rattle.space.specs.Lists.{select, count}
use Rattle.space.proofs.Lists.{count_le}
use Rattle.rows.specs.Rows.{row_count, rows_of, constraint}
use Rattle.rows.specs.Bytes.{stray}
use Rattle.rows.proofs.Lists.{length-rows_of}
use Rattle.chosen.specs.Chosen.{chosen, within, enough}
use Rattle.chosen.specs.Weight.{weight}
use Rattle.chosen.proofs.Choosing.{chosen-next, chosen_past}

-- ---- what it tells

weight_is : (n l : ℕ) (rows : List ℕ) → weight n l rows ≡ length rows + 64 * count (λ row. stray n (constraint l row)) rows
unfolding weight count
weight_is n l [] = refl
weight_is n l (row ∷ rows) = go (stray n (constraint l row)) (weight_is n l rows)
  where
    strays : ℕ
    strays = count (λ row. stray n (constraint l row)) rows

    go : (b : Bool) → weight n l rows ≡ length rows + 64 * strays → cond b 65 1 + weight n l rows ≡ suc (length rows) + 64 * cond b (suc strays) strays
    go true ih = omega arith
    go false ih = omega arith

pub weight_tells : (n l : ℕ) (rows : List ℕ) → n ≤ 64 → eqb (weight n l rows) n ≡ enough n l rows
unfolding enough within
weight_tells n l rows most = go (count (λ row. stray n (constraint l row)) rows) (weight_is n l rows) (count_le (λ row. stray n (constraint l row)) rows)
  where
    go : (k : ℕ) → weight n l rows ≡ length rows + 64 * k → k ≤ length rows → eqb (weight n l rows) n ≡ (eqb (length rows) n && eqb k 0)
    go zero e h = let same : weight n l rows ≡ length rows = omega arith in rw same (sym (and-true (eqb (length rows) n)))
    go (suc k) e h =
        let some : eqb (suc k) 0 ≡ false = ne_eqb (suc k) 0 (λ is. omega arith) in
        ne_eqb (weight n l rows) n (λ is. omega arith) ∙ rw some (sym (and-false (eqb (length rows) n)))

-- ---- row by row

weight-append : (n l : ℕ) (rows more : List ℕ) → weight n l (rows ++ more) ≡ weight n l rows + weight n l more
unfolding weight
weight-append n l [] more = sym (zero-add (weight n l more))
weight-append n l (row ∷ rows) more =
    ap (λ (k : ℕ). cond (stray n (constraint l row)) 65 1 + k) (weight-append n l rows more)
    ∙ sym (add_assoc (cond (stray n (constraint l row)) 65 1) (weight n l rows) (weight n l more))

-- one row
pub weight-one : (n l role row : ℕ) → weight n l (chosen (role ∷ []) (row ∷ [])) ≤ 65
unfolding chosen select weight
weight-one n l role row = go (eqb role 2)
  where
    go : (b : Bool) → weight n l (select (b ∷ []) (row ∷ [])) ≤ 65
    go true = one (stray n (constraint l row))
      where
        one : (s : Bool) → cond s 65 1 + 0 ≤ 65
        one true = omega arith
        one false = omega arith
    go false = omega arith

-- what the loop has at row i: the sum so far and what is to come make the whole
pub record Adding (n l : ℕ) (list roles : List ℕ) (sum i : ℕ) : Type 0 where
  pub within : i ≤ row_count l list
  pub small : sum ≤ 65 * i
  pub rest : sum + weight n l (chosen (drop i roles) (drop i (rows_of l list))) ≡ weight n l (chosen roles (rows_of l list))

pub adding_start : (n l : ℕ) (list roles : List ℕ) → Adding n l list roles 0 0
adding_start n l list roles = record { within = omega arith; small = omega arith; rest = zero-add (weight n l (chosen roles (rows_of l list))) }

module _ (n l : ℕ) (list roles : List ℕ) (sum i : ℕ) (A : Adding n l list roles sum i) where
  pub adding_end : row_count l list ≤ i → sum ≡ weight n l (chosen roles (rows_of l list))
  unfolding weight
  adding_end h =
      let none = chosen_past roles (rows_of l list) i (rw (length-rows_of l list) h) in
      let all : sum + 0 ≡ weight n l (chosen roles (rows_of l list)) = rw none at A.rest in
      omega arith

  module _ (known : row_count l list ≤ length roles) (h : i < row_count l list) (k : ℕ)
      (is : k ≡ weight n l (chosen (get_or roles i 0 ∷ []) (get_or (rows_of l list) i 0 ∷ []))) (most : k ≤ 65) where
    pub adding_more : Adding n l list roles (sum + k) (i + 1)
    adding_more =
        let rest : ℕ = weight n l (chosen (drop (i + 1) roles) (drop (i + 1) (rows_of l list))) in
        let next : weight n l (chosen (drop i roles) (drop i (rows_of l list))) ≡ k + rest =
        ap (weight n l) (chosen-next roles (rows_of l list) i (omega arith) (rw (length-rows_of l list) h))
        ∙ weight-append n l (chosen (get_or roles i 0 ∷ []) (get_or (rows_of l list) i 0 ∷ [])) (chosen (drop (i + 1) roles) (drop (i + 1) (rows_of l list)))
        ∙ ap (λ (x : ℕ). x + rest) (sym is) in
        record { within = omega arith; small = omega arith; rest = add_assoc sum k rest ∙ ap (λ (x : ℕ). sum + x) (sym next) ∙ A.rest }
