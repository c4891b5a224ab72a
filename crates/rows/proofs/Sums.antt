-- Sums pass through constraints and payloads; a row with no stray bit has n + 8 l bits.
-- Assumes nothing.
use mathlib.Core.Path.{◌≡◌}
use Prim.Native.Nat.{ℕ, ◌+◌, ◌*◌, ◌^◌, ◌<◌}
use native.Mathlib.Nat.{mod-lt, zero-div}
use mathlib.Core.List.{List, [], ◌∷◌, map}
use lib.Bits.{xor_shr, xor_mod}
use lib.Arith.{digits_lt}
use lib.Pow.{pow_pos, pow-add, split}
use Rattle.space.specs.Space.{◌⊕◌}
use Rattle.space.specs.Lists.{Below}
use Rattle.rows.specs.Rows.{row_bytes, vector, constraint, payload}

pub constraint-⊕ : (l a b : ℕ) → constraint l (a ⊕ b) ≡ constraint l a ⊕ constraint l b
unfolding constraint ◌⊕◌
constraint-⊕ l a b = xor_shr a b (8 * l)

pub payload-⊕ : (l a b : ℕ) → payload l (a ⊕ b) ≡ payload l a ⊕ payload l b
unfolding payload ◌⊕◌
payload-⊕ l a b = xor_mod a b (8 * l)

pub vector-⊕ : (l a b : ℕ) → vector l (a ⊕ b) ≡ vector l a ⊕ vector l b
unfolding vector ◌⊕◌
vector-⊕ l a b = xor_mod a b (8 * row_bytes l)

pub constraint_zero : (l : ℕ) → constraint l 0 ≡ 0
unfolding constraint
constraint_zero l = zero-div (2 ^ (8 * l))

pub payload_lt : (l row : ℕ) → payload l row < 2 ^ (8 * l)
unfolding payload
payload_lt l row = mod-lt row (pow_pos (8 * l))

-- a row with no stray bit has n + 8 l bits
pub row_lt : (n l row : ℕ) → constraint l row < 2 ^ n → row < 2 ^ (n + 8 * l)
unfolding constraint
row_lt n l row h = rw (pow-add 2 n (8 * l)) (rw (split row (8 * l)) at (digits_lt h (mod-lt row (pow_pos (8 * l)))))

pub rows_lt : (n l : ℕ) (rows : List ℕ) → Below (2 ^ n) (map (constraint l) rows) → Below (2 ^ (n + 8 * l)) rows
rows_lt n l [] h = tt
rows_lt n l (r ∷ rows) h = (row_lt n l r h.0, rows_lt n l rows h.1)
