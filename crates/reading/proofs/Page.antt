-- The page, in document 01's words: every picked row agrees with it and with no other page; and there is one exactly when the picked
-- constraints are independent.
-- Assumes nothing.
use mathlib.Core.Path.{◌≡◌, sym, ap, ◌∙◌}
use Prim.Native.Nat.{ℕ, ◌*◌, ◌^◌, ◌<◌}
use native.Mathlib.Omega.{arith}
use mathlib.Core.Bool.{true, false}
use mathlib.Core.List.{List, map, Memᴰ}
use mathlib.Core.Logic.{◌↔◌}
use lib.Pow.{pow-lt}
use lib.ListN.{length, get_or, length-map}
use borrow.Author.Tests.{eq-eqb}
use Rattle.space.specs.Lists.{All, Below}
use Rattle.space.specs.Space.{◌⊕◌, sum_of, spans, set_of, independent}
use Rattle.space.proofs.Lists.{all_in, below_map_at, below_map, tabulate_is, tabulate_below, length-tabulate}
use Rattle.space.proofs.Sets.{sum_lt, set_of-sum, set_of_unique, sum-set_of-⊕, set_at, length_set_at, sum_set_at}
use Rattle.space.proofs.Dimension.{spans_all}
use Rattle.space.proofs.Linear.{map-sum}
use Rattle.space.proofs.SumBy.{sum_by-⊕, sum_by_unit, sum_by_bits}
use Rattle.rows.specs.Rows.{constraint, payload, named, agrees}
use Rattle.rows.proofs.Sums.{payload_lt}
use Rattle.rows.proofs.Pages.{all-payloads, agree-independent}
use Rattle.reading.specs.Reading.{symbol, page_of, picked_rows, tie}
use Rattle.reading.specs.Properties.{Agreed}
use Rattle.reading.proofs.Pick.{picked-size, picked-independent, picked-inside}

module _ (n l : ℕ) (ps : List ℕ) (inside : Below (2 ^ n) (map (constraint l) ps)) (free : independent (map (constraint l) ps) ≡ true) (size : length ps ≡ n) where
  spanning : (c : ℕ) → c < 2 ^ n → spans (map (constraint l) ps) c ≡ true
  spanning c h = spans_all n (map (constraint l) ps) inside free (length-map ps (constraint l) ∙ size) c h

  -- what the rows give for any constraint: the sum of the payloads of its set
  value : ℕ → ℕ
  value c = sum_of (map (payload l) ps) (set_of (map (constraint l) ps) c)

  value-⊕ : (a b : ℕ) → a < 2 ^ n → b < 2 ^ n → value (a ⊕ b) ≡ value a ⊕ value b
  unfolding value
  value-⊕ a b p q = sum-set_of-⊕ (map (constraint l) ps) (map (payload l) ps) free a b (spanning a p) (spanning b q)

  page-value : (c : ℕ) → c < 2 ^ n → named (page_of n l ps) c ≡ value c
  unfolding page_of symbol value
  page-value c h = sum_by_bits n value value-⊕ c h

  own_value : {r : ℕ} → Memᴰ r ps → value (constraint l r) ≡ payload l r
  unfolding value
  own_value {r} m =
      ap (sum_of (map (payload l) ps)) (sym (set_of_unique (map (constraint l) ps) free (constraint l r) (set_at m) (length_set_at m ∙ sym (length-map ps (constraint l))) (sum_set_at (constraint l) m)))
      ∙ sum_set_at (payload l) m

  -- "The page is the one that every picked row agrees with."
  pub page-agrees : All (agrees l (page_of n l ps)) ps
  page-agrees = all_in (agrees l (page_of n l ps)) ps (λ r m. own r m (page-value (constraint l r) (below_map_at (2 ^ n) (constraint l) ps inside r m) ∙ own_value m))
    where
      own : (r : ℕ) → Memᴰ r ps → named (page_of n l ps) (constraint l r) ≡ payload l r → agrees l (page_of n l ps) r ≡ true
      own r m e = unfold agrees in eq-eqb (payload l r) (named (page_of n l ps) (constraint l r)) (sym e)

  -- the constraints of the rows sum to each bit
  pub unit_sum : (k : ℕ) → k < n → sum_of (map (constraint l) ps) (set_of (map (constraint l) ps) (2 ^ k)) ≡ 2 ^ k
  unit_sum k h = set_of-sum (map (constraint l) ps) (2 ^ k) (spanning (2 ^ k) (pow-lt h))

  -- so payloads that a page gives are summed to its symbols
  pub unit_named : (page : List ℕ) → length page ≡ n → (k : ℕ) → k < n
      → sum_of (map (named page) (map (constraint l) ps)) (set_of (map (constraint l) ps) (2 ^ k)) ≡ get_or page k 0
  unit_named page e k h =
      map-sum (named page) (sum_by-⊕ page) (map (constraint l) ps) (set_of (map (constraint l) ps) (2 ^ k))
      ∙ ap (named page) (unit_sum k h) ∙ sum_by_unit page k (omega arith)

  -- and with no other page
  pub page_unique : (page : List ℕ) → length page ≡ n → All (agrees l page) ps → page_of n l ps ≡ page
  unfolding page_of symbol
  page_unique page e a =
      tabulate_is n (symbol l ps) page e (λ k h. ap (λ (p : List ℕ). sum_of p (set_of (map (constraint l) ps) (2 ^ k))) (all-payloads l page ps a) ∙ unit_named page e k h)

pub length-page_of : (n l : ℕ) (ps : List ℕ) → length (page_of n l ps) ≡ n
unfolding page_of
length-page_of n l ps = length-tabulate n (symbol l ps)

-- its symbols have l bytes
pub page_of_below : (n l : ℕ) (ps : List ℕ) → Below (2 ^ (8 * l)) (page_of n l ps)
unfolding page_of symbol
page_of_below n l ps =
    tabulate_below (2 ^ (8 * l)) n (symbol l ps) (λ k. sum_lt (8 * l) (map (payload l) ps) (below_map (2 ^ (8 * l)) (payload l) (payload_lt l) ps) (set_of (map (constraint l) ps) (2 ^ k)))

-- "It exists and is unique exactly when the n picked constraints are independent."
module _ (n l : ℕ) (rows : List ℕ) (inside : Below (2 ^ n) (map (constraint l) rows)) (none : tie n rows ≡ false) where
  pub page_exists_exactly : ((page : List ℕ) × Agreed n l (picked_rows n rows) page) ↔ (independent (map (constraint l) (picked_rows n rows)) ≡ true)
  page_exists_exactly = (
    λ g. agree-independent l g.0 g.1.symbols (picked_rows n rows) g.1.all ∙ picked-independent n rows,
    λ free. (
      page_of n l (picked_rows n rows),
      record {
        size = length-page_of n l (picked_rows n rows);
        symbols = page_of_below n l (picked_rows n rows);
        all = page-agrees n l (picked_rows n rows) (picked-inside n l (2 ^ n) rows inside) free (picked-size n rows none);
      },
    ),
  )

  pub page_only : (page : List ℕ) → Agreed n l (picked_rows n rows) page → page_of n l (picked_rows n rows) ≡ page
  page_only page g =
      page_unique n l (picked_rows n rows) (picked-inside n l (2 ^ n) rows inside) (page_exists_exactly.0 (page, g)) (picked-size n rows none) page g.size g.all
