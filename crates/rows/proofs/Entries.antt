-- A seed in front of a row: an entry of a list, there and back.
-- Assumes nothing.
use mathlib.Core.Path.{◌≡◌, sym, ap, ap₂, ◌∙◌}
use Prim.Native.Nat.{ℕ, ◌+◌, ◌*◌, ◌%◌, ◌^◌, ◌<◌}
use native.Mathlib.Nat.{mod-lt, mod-eq_of_lt}
use native.Mathlib.Omega.{arith}
use mathlib.Core.List.{List, [], ◌∷◌, ◌++◌, map}
use lib.Arith.{digits_lt}
use lib.Pow.{pow_pos, pow-add, split, high, low}
use Rattle.space.specs.Lists.{Below}
use Rattle.octets.specs.Octets.{bytes}
use Rattle.octets.proofs.Numbers.{bytes_mod}
use Rattle.octets.proofs.Digits.{bytes-append}
use Rattle.rows.specs.Rows.{row_bytes, list_row_bytes, seed, vector, entered}

-- ---- the row of an entry

pub vector_lt : (l entry : ℕ) → vector l entry < 2 ^ (8 * row_bytes l)
unfolding vector
vector_lt l entry = mod-lt entry (pow_pos (8 * row_bytes l))

pub vector-whole : (l row : ℕ) → row < 2 ^ (8 * row_bytes l) → vector l row ≡ row
unfolding vector
vector-whole l row h = mod-eq_of_lt h

pub vectors_below : (l : ℕ) (entries : List ℕ) → Below (2 ^ (8 * row_bytes l)) (map (vector l) entries)
vectors_below l [] = tt
vectors_below l (e ∷ entries) = (vector_lt l e, vectors_below l entries)

-- ---- its seed and its row are all of it

pub entered_parts : (l entry : ℕ) → entered l (seed l entry) (vector l entry) ≡ entry
unfolding entered seed vector
entered_parts l entry = split entry (8 * row_bytes l)

module _ (l s row : ℕ) (small : row < 2 ^ (8 * row_bytes l)) where
  pub seed-entered : seed l (entered l s row) ≡ s
  unfolding seed entered
  seed-entered = high s (8 * row_bytes l) small

  pub vector-entered : vector l (entered l s row) ≡ row
  unfolding vector entered
  vector-entered = low s (8 * row_bytes l) small

  pub entered_lt : s < 2 ^ 32 → entered l s row < 2 ^ (8 * list_row_bytes l)
  unfolding entered
  entered_lt h =
      let wide : 32 + 8 * row_bytes l ≡ 8 * list_row_bytes l = omega arith in
      let all : s * 2 ^ (8 * row_bytes l) + row < 2 ^ (32 + 8 * row_bytes l) = rw (pow-add 2 32 (8 * row_bytes l)) (digits_lt h small) in
      rw wide at all

  -- in bytes, the one behind the other
  pub bytes-entered : bytes (list_row_bytes l) (entered l s row) ≡ bytes 4 s ++ bytes (row_bytes l) row
  unfolding seed vector
  bytes-entered =
      bytes-append 4 (row_bytes l) (entered l s row)
      ∙ ap₂ (λ (front back : List ℕ). front ++ back) (ap (bytes 4) seed-entered) (sym (bytes_mod (row_bytes l) 0 (entered l s row)) ∙ ap (bytes (row_bytes l)) back)
    where
      back : entered l s row % 2 ^ (8 * (0 + row_bytes l)) ≡ row
      back = ap (λ (e : ℕ). entered l s row % 2 ^ (8 * e)) (omega arith) ∙ vector-entered
