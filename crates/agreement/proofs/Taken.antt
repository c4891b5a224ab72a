-- The agreement of the rows taken is the count of those whose numbers agree with the page's symbols, where each is a row of the list.
-- Assumes nothing.
use mathlib.Core.Path.{◌≡◌, refl, ap, ap₂, ◌∙◌}
use Prim.Native.Nat.{ℕ, ◌≤◌, ◌<◌}
use native.Mathlib.Omega.{arith}
use mathlib.Core.List.{List, [], ◌∷◌, map}
use lib.ListN.{get_or}
use Rattle.space.specs.Lists.{count, Below}
use Rattle.doubles.specs.Doubles.{pairs_in}
use Rattle.rows.specs.Rows.{row_count, entries_of, vector, rows_of, agrees}
use Rattle.rows.proofs.Lists.{length-entries_of}
use Rattle.reading.specs.Reading.{agreement}
use Rattle.reading.specs.Orders.{taken}
use Rattle.reading.proofs.Spread.{get_or_mapped}
use Rattle.rows.specs.Bytes.{cut, bytes_agree}
use Rattle.rows.proofs.Written.{bytes_agree-row}
use Rattle.lists.specs.Lists.{row_at}
use Rattle.lists.proofs.Rows.{row-length, row_number}
use Rattle.agreement.specs.Agreement.{agreement_of}

-- the rows of a list at some arrivals are those that are taken
rows_taken : (l : ℕ) (list arrivals : List ℕ) → Below (row_count l list) arrivals → map (λ a. get_or (rows_of l list) a 0) arrivals ≡ taken l (entries_of l list) arrivals
unfolding taken rows_of
rows_taken l list [] b = refl
rows_taken l list (a ∷ arrivals) b =
    ap₂ (λ x t. x ∷ t) (get_or_mapped (vector l) (entries_of l list) a (omega (arith, b.0, length-entries_of l list))) (rows_taken l list arrivals b.1)

module _ (l : ℕ) (list page : List ℕ) (low : 1 ≤ l) (high : l ≤ 32) (few : row_count l list ≤ 512) (bytes : Below 256 list) where
  -- one of them
  row-agrees : (a : ℕ) → a < row_count l list → bytes_agree page (row_at l a list) ≡ agrees l (cut l page) (get_or (rows_of l list) a 0)
  row-agrees a h =
      bytes_agree-row l page (row_at l a list) (row-length l a list (omega arith) h) low high
      ∙ ap (agrees l (cut l page)) (row_number l a list (omega arith) h bytes)

  each : (arrivals : List ℕ) → Below (row_count l list) arrivals
      → count (λ a. bytes_agree page (row_at l a list)) arrivals ≡ count (agrees l (cut l page)) (map (λ a. get_or (rows_of l list) a 0) arrivals)
  unfolding count
  each [] b = refl
  each (a ∷ arrivals) b = rw (row-agrees a b.0, each arrivals b.1)

  -- the rows of an order that bytes tell
  pub agreement-taken : (order arrivals : List ℕ) → pairs_in order ≡ arrivals → Below (row_count l list) arrivals
      → agreement_of l list order page ≡ agreement l (cut l page) (taken l (entries_of l list) arrivals)
  unfolding agreement_of agreement
  agreement-taken order arrivals e b = rw e (each arrivals b ∙ ap (count (agrees l (cut l page))) (rows_taken l list arrivals b))
