-- A row in bytes: the one that making writes behind its seed is the page's own, and agrees with it.
-- Assumes nothing.
use mathlib.Core.Path.{◌≡◌, sym, ap, ap₂, ◌∙◌}
use mathlib.Core.Bool.{true}
use mathlib.Core.List.{List, ◌++◌}
use Prim.Native.Nat.{ℕ, ◌+◌, ◌-◌, ◌*◌, ◌%◌, ◌^◌, ◌≤◌, ◌<◌}
use native.Mathlib.Omega.{arith}
use lib.ListN.{length, length-append}
use borrow.Author.Tests.{le-leb}
use Rattle.space.specs.Lists.{Below}
use Rattle.octets.specs.Octets.{number, bytes}
use Rattle.octets.proofs.Numbers.{length-bytes, number-bytes, bytes_mod}
use Rattle.octets.proofs.Digits.{bytes-append}
use Rattle.rows.specs.Rows.{symbols, row_bytes, list_row_bytes, entered, constraint, payload, named, agrees, made}
use Rattle.rows.specs.Bytes.{row_of, entry_of, cut, bytes_agree}
use Rattle.rows.proofs.Entries.{bytes-entered}
use Rattle.rows.proofs.Sums.{row_lt}
use Rattle.rows.proofs.Pages.{symbols-small, cut-symbols, made-constraint, made-payload, made-agrees}

-- ---- the row that is written

pub length-row_of : (n l c : ℕ) (page : List ℕ) → length (row_of n l c page) ≡ row_bytes l
unfolding row_of
length-row_of n l c page = length-append (bytes 8 c) _ ∙ ap₂ (λ a b. a + b) (length-bytes 8 c) (length-bytes l (named (symbols n l page) c))

module _ (n l : ℕ) (page : List ℕ) (b : Below 256 page) (c : ℕ) where
  row : ℕ
  row = made l (symbols n l page) c

  its_constraint : constraint l row ≡ c
  its_constraint = unfold row in made-constraint l (symbols n l page) (symbols-small n l page b) c

  -- it is the page's own row for the constraint
  pub row_of-made : row_of n l c page ≡ bytes (row_bytes l) (made l (symbols n l page) c)
  unfolding row row_of constraint payload
  row_of-made = sym (bytes-append 8 l row ∙ ap₂ (λ s t. s ++ t) (ap (bytes 8) its_constraint) (sym (bytes_mod l 0 row) ∙ ap (bytes l) low))
    where
      low : row % 2 ^ (8 * (0 + l)) ≡ named (symbols n l page) c
      low = ap (λ (e : ℕ). row % 2 ^ (8 * e)) (omega arith) ∙ made-payload l (symbols n l page) (symbols-small n l page b) c

  module _ (h : c < 2 ^ 64) where
    pub made_lt : made l (symbols n l page) c < 2 ^ (8 * row_bytes l)
    unfolding row
    made_lt = let wide : 64 + 8 * l ≡ 8 * row_bytes l = omega arith in rw wide at (row_lt 64 l row (rw its_constraint h))

    pub number-row_of : number (row_of n l c page) ≡ made l (symbols n l page) c
    number-row_of = ap number row_of-made ∙ number-bytes (row_bytes l) (made l (symbols n l page) c) made_lt

    -- and agrees with it
    pub row_of-agrees : agrees l (symbols n l page) (number (row_of n l c page)) ≡ true
    row_of-agrees = rw number-row_of (made-agrees l (symbols n l page) (symbols-small n l page b) c)

    -- with a seed in front it is the entry that making writes
    pub entry_of-entered : (seed : ℕ) → entry_of n l seed c page ≡ bytes (list_row_bytes l) (entered l seed (made l (symbols n l page) c))
    unfolding entry_of
    entry_of-entered seed = ap (λ (t : List ℕ). bytes 4 seed ++ t) row_of-made ∙ sym (bytes-entered l seed (made l (symbols n l page) c) made_lt)

-- ---- agreement in bytes

pub bytes_agree-row : (l : ℕ) (page row : List ℕ) → length row ≡ row_bytes l → 1 ≤ l → l ≤ 32 → bytes_agree page row ≡ agrees l (cut l page) (number row)
unfolding bytes_agree
bytes_agree-row l page row e low high =
    let payload : length row - 8 ≡ l = omega arith in
    rw (payload, le-leb 9 (length row) (omega arith), le-leb (length row) 40 (omega arith))

pub bytes_agree-page : (n l : ℕ) (page row : List ℕ) → length page ≡ n * l → length row ≡ row_bytes l → 1 ≤ l → l ≤ 32
    → bytes_agree page row ≡ agrees l (symbols n l page) (number row)
bytes_agree-page n l page row e size low high =
    bytes_agree-row l page row size low high ∙ ap (λ p. agrees l p (number row)) (cut-symbols n l page low e)

-- a row that was made agrees with its page
pub row_of-bytes_agree : (n l c : ℕ) (page : List ℕ) → Below 256 page → c < 2 ^ 64 → length page ≡ n * l → 1 ≤ l → l ≤ 32 → bytes_agree page (row_of n l c page) ≡ true
row_of-bytes_agree n l c page b h e low high = bytes_agree-page n l page (row_of n l c page) e (length-row_of n l c page) low high ∙ row_of-agrees n l page b c h
