-- Adding a page to a row: a one-to-one map that respects sums, keeps the constraint, and keeps agreement when the page gets the same page added.
-- Assumes nothing.
use mathlib.Core.Path.{◌≡◌, refl, sym, ap, ap₂, ◌∙◌}
use Prim.Native.Nat.{ℕ, suc, ◌*◌, ◌/◌, ◌%◌, ◌^◌, ◌<◌}
use native.Mathlib.Nat.{mod-lt, zero-lt-suc, mod-eq_of_lt, div-eq_of_lt, lt_of_lt_of_le}
use native.Mathlib.Omega.{arith}
use mathlib.Core.List.{List, [], ◌∷◌, map}
use lib.Bits.{xor_shr}
use lib.Pow.{pow_mono}
use lib.ListN.{length, get_or, length-map}
use Rattle.space.specs.Space.{◌⊕◌, sum_by}
use Rattle.space.specs.Lists.{Below, tabulate}
use Rattle.space.proofs.Lists.{map_both}
use Rattle.space.proofs.Xor.{zero_⊕, ⊕_zero, ⊕_four, ⊕_lt, times_⊕, eqb_⊕}
use Rattle.space.proofs.SumBy.{sum_by-⊕, sum_by_zero, sum_by_lt}
use Rattle.octets.specs.Octets.{bytes, flat, xor_bytes}
use Rattle.octets.proofs.Xors.{xor_bytes-append}
use Rattle.octets.proofs.Numbers.{length-bytes, bytes-⊕}
use Rattle.octets.proofs.Runs.{length-flat}
use Rattle.rows.specs.Rows.{row_bytes, list_row_bytes, row_count, entries_of, seed, vector, entered, rows_of, constraint, payload, named, agrees}
use Rattle.rows.specs.Shift.{shifted, shifted_entry, shifted_list, plus}
use Rattle.rows.proofs.Sums.{constraint-⊕, payload-⊕, vector-⊕, constraint_zero}
use Rattle.rows.proofs.Pages.{named-constraint}
use Rattle.rows.proofs.Entries.{vector-whole, entered_parts, seed-entered, vector-entered}
use Rattle.rows.proofs.Lists.{row_count-flat, entries-flat, length-entries_of, entries_below}

-- ---- two pages added

pub named-plus : (p q : List ℕ) → length p ≡ length q → (c : ℕ) → named (plus p q) c ≡ named p c ⊕ named q c
unfolding plus sum_by
named-plus [] [] e c = sym (zero_⊕ 0)
named-plus [] (t ∷ q) e c = absurd (omega arith)
named-plus (s ∷ p) [] e c = absurd (omega arith)
named-plus (s ∷ p) (t ∷ q) e c =
    rw (times_⊕ (c % 2) s t (mod-lt c (zero-lt-suc 1))) (rw (named-plus p q (omega arith) (c / 2))
    (⊕_four (c % 2 * s) (c % 2 * t) (named p (c / 2)) (named q (c / 2))))

-- in bytes, they are added bit by bit
pub flat-plus : (l : ℕ) (p q : List ℕ) → length p ≡ length q → flat l (plus p q) ≡ xor_bytes (flat l p) (flat l q)
unfolding plus flat xor_bytes
flat-plus l [] [] e = refl
flat-plus l [] (t ∷ q) e = absurd (omega arith)
flat-plus l (s ∷ p) [] e = absurd (omega arith)
flat-plus l (s ∷ p) (t ∷ q) e =
    rw (bytes-⊕ l s t) (rw (flat-plus l p q (omega arith))
    (sym (xor_bytes-append (bytes l s) (bytes l t) (flat l p) (flat l q) (length-bytes l s ∙ sym (length-bytes l t)))))

pub tabulate-plus : (f : ℕ → ℕ) (q : List ℕ) → tabulate (length q) (λ k. f k ⊕ get_or q k 0) ≡ plus (tabulate (length q) f) q
unfolding tabulate plus
tabulate-plus f [] = refl
tabulate-plus f (t ∷ q) = ap (λ x. f 0 ⊕ t ∷ x) (tabulate-plus (λ k. f (suc k)) q)

-- ---- a page added to a row

pub shifted-⊕ : (l : ℕ) (page : List ℕ) (a b : ℕ) → shifted l page (a ⊕ b) ≡ shifted l page a ⊕ shifted l page b
unfolding shifted
shifted-⊕ l page a b =
    rw (constraint-⊕ l a b) (rw (sum_by-⊕ page (constraint l a) (constraint l b)) (⊕_four a b (named page (constraint l a)) (named page (constraint l b))))

module _ (l : ℕ) (page : List ℕ) (b : Below (2 ^ (8 * l)) page) where
  pub shifted-constraint : (row : ℕ) → constraint l (shifted l page row) ≡ constraint l row
  unfolding shifted
  shifted-constraint row = constraint-⊕ l row (named page (constraint l row)) ∙ rw (named-constraint l page b (constraint l row)) (⊕_zero (constraint l row))

  pub shifted-payload : (row : ℕ) → payload l (shifted l page row) ≡ payload l row ⊕ named page (constraint l row)
  unfolding shifted
  shifted-payload row = payload-⊕ l row (named page (constraint l row)) ∙ ap (λ (x : ℕ). payload l row ⊕ x) small
    where
      small : payload l (named page (constraint l row)) ≡ named page (constraint l row)
      small = unfold payload in mod-eq_of_lt (sum_by_lt (8 * l) page b (constraint l row))

  pub shifted_inj : (v : ℕ) → shifted l page v ≡ 0 → v ≡ 0
  unfolding shifted
  shifted_inj v e = sym (rw free (rw (sum_by_zero page) (⊕_zero v))) ∙ e
    where
      free : constraint l v ≡ 0
      free = sym (shifted-constraint v) ∙ ap (constraint l) e ∙ constraint_zero l

  pub shifted-constraints : (rows : List ℕ) → map (constraint l) (map (shifted l page) rows) ≡ map (constraint l) rows
  shifted-constraints rows = map_both (constraint l) (shifted l page) (constraint l) shifted-constraint rows

  pub shifted-payloads : (rows : List ℕ) → map (payload l) (map (shifted l page) rows) ≡ map (λ r. payload l r ⊕ named page (constraint l r)) rows
  shifted-payloads rows = map_both (payload l) (shifted l page) (λ r. payload l r ⊕ named page (constraint l r)) shifted-payload rows

  pub shifted-agrees : (given : List ℕ) → length given ≡ length page → (r : ℕ) → agrees l (plus given page) (shifted l page r) ≡ agrees l given r
  unfolding agrees
  shifted-agrees given e r =
      rw (shifted-constraint r) (rw (shifted-payload r) (rw (named-plus given page e (constraint l r))
      (eqb_⊕ (payload l r) (named given (constraint l r)) (named page (constraint l r)))))

  -- ---- to an entry of a list, and to each

  small : (entry : ℕ) → named page (constraint l (vector l entry)) < 2 ^ (8 * row_bytes l)
  small entry = lt_of_lt_of_le (sum_by_lt (8 * l) page b (constraint l (vector l entry))) (pow_mono (omega arith))

  pub shifted-entry : (entry : ℕ) → vector l (shifted_entry l page entry) ≡ shifted l page (vector l entry)
  unfolding shifted_entry shifted
  shifted-entry entry = vector-⊕ l entry (named page (constraint l (vector l entry))) ∙ ap (λ (x : ℕ). vector l entry ⊕ x) (vector-whole l _ (small entry))

  pub shifted-seed : (entry : ℕ) → seed l (shifted_entry l page entry) ≡ seed l entry
  unfolding shifted_entry seed ◌⊕◌
  shifted-seed entry =
      xor_shr entry (named page (constraint l (vector l entry))) (8 * row_bytes l)
      ∙ ap (λ (x : ℕ). entry / 2 ^ (8 * row_bytes l) ⊕ x) (div-eq_of_lt (small entry)) ∙ ⊕_zero (entry / 2 ^ (8 * row_bytes l))

  -- to a row with a seed in front
  pub shifted-entered : (s row : ℕ) → row < 2 ^ (8 * row_bytes l) → shifted_entry l page (entered l s row) ≡ entered l s (shifted l page row)
  shifted-entered s row h =
      sym (entered_parts l (shifted_entry l page (entered l s row)))
      ∙ ap₂ (entered l) (shifted-seed (entered l s row) ∙ seed-entered l s row h) (shifted-entry (entered l s row) ∙ ap (shifted l page) (vector-entered l s row h))

  pub shifted-entries : (entries : List ℕ) → map (vector l) (map (shifted_entry l page) entries) ≡ map (shifted l page) (map (vector l) entries)
  shifted-entries entries =
      map_both (vector l) (shifted_entry l page) (λ e. shifted l page (vector l e)) shifted-entry entries
      ∙ sym (map_both (shifted l page) (vector l) (λ e. shifted l page (vector l e)) (λ e. refl) entries)

  entries_low : (entries : List ℕ) → Below (2 ^ (8 * list_row_bytes l)) entries → Below (2 ^ (8 * list_row_bytes l)) (map (shifted_entry l page) entries)
  unfolding shifted_entry
  entries_low [] h = tt
  entries_low (e ∷ entries) h =
      (⊕_lt (8 * list_row_bytes l) e _ h.0 (lt_of_lt_of_le (sum_by_lt (8 * l) page b (constraint l (vector l e))) (pow_mono (omega arith))), entries_low entries h.1)

  module _ (list : List ℕ) where
    pub row_count-shifted_list : row_count l (shifted_list l page list) ≡ row_count l list
    unfolding shifted_list
    row_count-shifted_list = row_count-flat l (map (shifted_entry l page) (entries_of l list)) ∙ length-map (entries_of l list) (shifted_entry l page) ∙ length-entries_of l list

    pub length-shifted_list : length list ≡ row_count l list * list_row_bytes l → length (shifted_list l page list) ≡ length list
    unfolding shifted_list
    length-shifted_list whole =
        length-flat (list_row_bytes l) (map (shifted_entry l page) (entries_of l list))
        ∙ ap (λ (m : ℕ). m * list_row_bytes l) (length-map (entries_of l list) (shifted_entry l page) ∙ length-entries_of l list) ∙ sym whole

    pub entries-shifted_list : Below 256 list → entries_of l (shifted_list l page list) ≡ map (shifted_entry l page) (entries_of l list)
    unfolding shifted_list
    entries-shifted_list bytes = entries-flat l (map (shifted_entry l page) (entries_of l list)) (entries_low (entries_of l list) (entries_below l list bytes))

    pub rows-shifted_list : Below 256 list → rows_of l (shifted_list l page list) ≡ map (shifted l page) (rows_of l list)
    unfolding rows_of
    rows-shifted_list bytes = ap (map (vector l)) (entries-shifted_list bytes) ∙ shifted-entries (entries_of l list)
