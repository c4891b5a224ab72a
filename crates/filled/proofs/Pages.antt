-- The page that slots give once n rows with independent constraints are in: the one of the reading's definition.
-- Assumes nothing.
use mathlib.Core.Path.{◌≡◌, ap, ◌∙◌}
use Prim.Native.Nat.{ℕ, ◌*◌, ◌^◌, ◌<◌}
use native.Mathlib.Nat.{mod-eq_of_lt}
use mathlib.Core.Bool.{true}
use mathlib.Core.List.{List, map}
use lib.ListN.{length, length-map}
use lib.Pow.{pow-lt, shl-shr}
use borrow.Author.Tests.{ltb-true}
use Rattle.space.specs.Lists.{Below}
use Rattle.space.specs.Space.{spans, independent}
use Rattle.space.proofs.Lists.{tabulate_ext}
use Rattle.space.proofs.Dimension.{spans_all}
use Rattle.rows.specs.Rows.{constraint, payload}
use Rattle.reading.specs.Reading.{symbol, page_of}
use Rattle.basis.specs.Algorithm2.{pass}
use Rattle.basis.proofs.Stands.{Stand}
use Rattle.basis.proofs.Solving.{solve_low, solve_symbol}
use Rattle.page_of_slots.specs.Symbols.{symbol_in, page_in}

payload_low : (l row : ℕ) → row < 2 ^ (8 * l) → payload l row ≡ row
unfolding payload
payload_low l row h = mod-eq_of_lt h

unit_constraint : (l c : ℕ) → constraint l (c * 2 ^ (8 * l)) ≡ c
unfolding constraint
unit_constraint l c = shl-shr c (8 * l)

module _ (n l : ℕ) (ps slots : List ℕ) (S : Stand (8 * l) ps slots) (free : independent (map (constraint l) ps) ≡ true)
    (inside : Below (2 ^ n) (map (constraint l) ps)) (size : length ps ≡ n) where
  -- each bit is a sum of the constraints, so nothing of it is left
  unit_low : (k : ℕ) → k < n → (pass (8 * l) slots (2 ^ k * 2 ^ (8 * l))).vector < 2 ^ (8 * l)
  unit_low k h =
      ltb-true (pass (8 * l) slots (2 ^ k * 2 ^ (8 * l))).vector (2 ^ (8 * l))
      (solve_low l ps slots S (2 ^ k * 2 ^ (8 * l)) ∙ ap (spans (map (constraint l) ps)) (unit_constraint l (2 ^ k))
      ∙ spans_all n (map (constraint l) ps) inside free (length-map ps (constraint l) ∙ size) (2 ^ k) (pow-lt h))

  symbol_right : (k : ℕ) → k < n → symbol_in l slots k ≡ symbol l ps k
  unfolding symbol_in
  symbol_right k h =
      payload_low l (pass (8 * l) slots (2 ^ k * 2 ^ (8 * l))).vector (unit_low k h) ∙ solve_symbol l ps slots S free k (unit_low k h)

  pub page_right : page_in n l slots ≡ page_of n l ps
  unfolding page_in page_of
  page_right = tabulate_ext n (symbol_in l slots) (symbol l ps) symbol_right
