-- Looking for a stray bit row by row: what the loop knows before each row, and the constraint of a row's bytes.
-- Assumes nothing.
use mathlib.Core.Path.{◌≡◌, refl, sym, ap, ◌∙◌}
use Prim.Native.Nat.{ℕ, zero, suc, ◌+◌, ◌-◌, ◌*◌, ◌/◌, ◌^◌, ◌≤◌, ◌<◌}
use native.Mathlib.Omega.{arith}
use native.Mathlib.Numerals.{add-one}
use mathlib.Core.Bool.{Bool, true, false, cond}
use mathlib.Core.List.{List, map}
use lib.Dec.{leb}
use lib.ListN.{length, get_or, take, drop, length-drop, take-append-drop, drop_of_length-le}
use lib.Pow.{high}
use lib.Seq.{drop-cons}
use Rattle.space.specs.Lists.{Below}
use Rattle.octets.specs.Octets.{number}
use Rattle.octets.proofs.Numbers.{number_append, number_lt}
use Rattle.octets.proofs.Runs.{below_parts}
use Rattle.words.specs.Words.{word_at}
use Rattle.words.proofs.Words.{word_inside}
use Rattle.rows.specs.Rows.{row_bytes, row_count, rows_of, constraint}
use Rattle.rows.proofs.Lists.{length-rows_of}
use Rattle.lists.specs.Lists.{row_at}
use Rattle.lists.proofs.Rows.{row-length, row_number, row_below}
use Rattle.reading.specs.declared.Answer.TheVariants as answer
use borrow.Author.Tests.{le-leb, lt-leb}
use Rattle.reading.specs.Outcome.{passes, refuses, stray_from}
use Rattle.strays.specs.Strays.{strays_in, stray_check}
use Rattle.std.specs.List.{find, range_with_len}
use Rattle.std.specs.Prelude.{Some}
use Rattle.places.specs.declared.Arrival.{Arrival}

-- the constraint is the number of the first eight bytes
pub row-constraint : (row : List ℕ) → 8 ≤ length row → Below 256 row → constraint (length row - 8) (number row) ≡ number (take 8 row)
unfolding constraint
row-constraint row h b =
    ap (λ (bytes : List ℕ). number bytes / 2 ^ (8 * (length row - 8))) (sym (take-append-drop 8 row))
    ∙ rw (number_append (take 8 row) (drop 8 row)) (rw (length-drop 8 row)
    (high (number (take 8 row)) (8 * (length row - 8)) (rw (length-drop 8 row) at (number_lt (drop 8 row) (below_parts 256 8 row b).1))))

-- and that is its first word
pub constraint_word : (row : List ℕ) → 8 ≤ length row → Below 256 row → word_at 0 row ≡ constraint (length row - 8) (number row)
constraint_word row h b = sym (row-constraint row h b ∙ word_inside 0 row h)

-- a list that is too long was refused before
pub strays_listed : (n l : ℕ) (list : List ℕ) → row_count l list ≤ 512 → strays_in n l list ≡ stray_from n l 0 (rows_of l list)
unfolding strays_in
strays_listed n l list h = rw (le-leb (row_count l list) 512 h)

pub strays_over : (n l : ℕ) (list : List ℕ) → 512 < row_count l list → strays_in n l list ≡ passes
unfolding strays_in
strays_over n l list h = rw (lt-leb (row_count l list) 512 h)

-- ---- the first row that strays

abbrev arrival_of : ℕ → Arrival
arrival_of i = record { 0 = i }

module _ (n l : ℕ) (list : List ℕ) where
  -- what is asked of a row's bytes
  abbrev pub strays_at : Arrival → Bool
  strays_at arrival = leb (2 ^ n) (word_at 0 (row_at l arrival.0 list))

  module _ (b : Below 256 list) where
    -- is asked of the row
    asked : (i : ℕ) → i < 512 → i < row_count l list → strays_at (arrival_of i) ≡ leb (2 ^ n) (constraint l (get_or (rows_of l list) i 0))
    asked i few h =
        let long = row-length l i list few h in
        let small : row_bytes l - 8 ≡ l = omega arith in
        ap (leb (2 ^ n)) (constraint_word (row_at l i list) (omega (arith, long)) (row_below l i list b) ∙ rw (long, small, row_number l i list few h b) refl)

    module _ (few : row_count l list ≤ 512) where
      next : (i : ℕ) → i < row_count l list → stray_from n l i (drop i (rows_of l list))
          ≡ cond (strays_at (arrival_of i)) (refuses (answer.Stray (arrival_of i))) (stray_from n l (suc i) (drop (suc i) (rows_of l list)))
      next i h =
          ap (stray_from n l i) (drop-cons (rows_of l list) i 0 (rw (length-rows_of l list) h))
          ∙ unfold stray_from in rw (asked i (omega arith) h) refl

      -- the search from an arrival on says what the definition does
      found_from : (k i : ℕ) → i + k ≡ row_count l list
          → stray_check (find strays_at (map arrival_of (range_with_len i k))) ≡ stray_from n l i (drop i (rows_of l list))
      unfolding stray_check
      found_from zero i e = sym (ap (stray_from n l i) (drop_of_length-le (rows_of l list) {i = i} (rw (length-rows_of l list) (omega arith))) ∙ unfold stray_from in refl)
      found_from (suc k) i e =
          go (strays_at (arrival_of i)) (found_from k (i + 1) (omega arith) ∙ ap (λ j. stray_from n l j (drop j (rows_of l list))) (add-one i)) ∙ sym (next i (omega arith))
        where
          go : (c : Bool) → stray_check (find strays_at (map arrival_of (range_with_len (i + 1) k))) ≡ stray_from n l (suc i) (drop (suc i) (rows_of l list))
              → stray_check (cond c (Some (arrival_of i)) (find strays_at (map arrival_of (range_with_len (i + 1) k))))
              ≡ cond c (refuses (answer.Stray (arrival_of i))) (stray_from n l (suc i) (drop (suc i) (rows_of l list)))
          go true f = refl
          go false f = f

      pub found : (m : ℕ) → m ≡ row_count l list → stray_check (find strays_at (map arrival_of (range_with_len 0 m))) ≡ strays_in n l list
      found m e = found_from m 0 (omega arith) ∙ sym (strays_listed n l list few)
