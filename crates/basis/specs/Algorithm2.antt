-- Algorithm 2 of document 000 (He and Cai, "straightforward implementation"), lines 1 to 24 and 26, over numbers. What differs:
-- slots and rows count from 0; b_t and q_t are one number, b_t above its t lowest digits and q_t in them, where the digit worth
-- 2^j names kept place j; a slot that is NULL is 0; no row is swapped (line 14), it is noted as kept at its arrival; and digits that
-- no kept place has yet stand for the zeros that line 18 appends. Slot i of d stands for the digit d - 1 - i of b: "the leftmost" is slot 0.
use Rattle.std.specs.Prelude.{ℕ, zero, suc, ◌+◌, ◌*◌, ◌/◌, ◌%◌, ◌^◌, ◌≡◌, Bool, true, false, cond, List, [], ◌∷◌, ◌++◌, eqb, leb, ltb, length, set, replicate}
use Rattle.space.specs.Lists.{count}
use Rattle.space.specs.Space.{◌⊕◌}
use Rattle.reading.specs.Raised.{raised}

-- Whether the digit worth 2^k is set.
unfoldable pub digit : ℕ → ℕ → Bool
digit k x = eqb (x / 2 ^ k % 2) 1

-- The n lowest digits, the one worth 1 first.
unfoldable pub digits : ℕ → ℕ → List Bool
digits zero q = []
digits (suc n) q = eqb (q % 2) 1 ∷ digits n (q / 2)

-- What is left of a vector after a pass, and the slot where it stops: past the last if it went by all.
pub record Pass : Type 0 where
  pub vector : ℕ
  pub stop : ℕ

unfoldable pub later : Pass → Pass
later p = record { vector = p.vector; stop = suc p.stop }

-- Lines 6 to 11: at each digit of b that is set (7), the slot is added if it is not empty (8 to 10), and the pass goes on behind it;
-- at an empty slot it stops (11).
unfoldable pub pass : ℕ → List ℕ → ℕ → Pass
pass t [] w = record { vector = w; stop = 0 }
pass t (s ∷ ss) w =
    cond (digit (t + length ss) w)
    (cond (digit (t + length ss) s) (later (pass t ss (w ⊕ s))) (record { vector = w; stop = 0 }))
    (later (pass t ss w))

-- What the algorithm holds: the slots; the uses N_j by kept place; and by arrival whether the row was kept.
pub record Working : Type 0 where
  pub slots : List ℕ
  pub uses : List ℕ
  pub kept : List Bool

-- Lines 1 and 2, with d slots.
unfoldable pub start : ℕ → Working
start d = record { slots = replicate d 0; uses = []; kept = [] }

-- Lines 13 to 18: the row is kept, at the next kept place.
unfoldable pub keeping : Pass → Working → Working
keeping p s =
    record {
      slots = set s.slots p.stop (p.vector ⊕ 2 ^ length s.uses);
      uses = s.uses ++ (0 ∷ []);
      kept = s.kept ++ (true ∷ []);
    }

-- Line 22: one use more for each kept place that q names.
unfoldable pub counting : Pass → Working → Working
counting p s =
    record {
      slots = s.slots;
      uses = raised (digits (length s.uses) p.vector) s.uses;
      kept = s.kept ++ (false ∷ []);
    }

-- Lines 4 to 23, for one row.
unfoldable pub step : ℕ → ℕ → Working → Working
step t row s =
    cond (ltb (pass t s.slots (row * 2 ^ t)).stop (length s.slots))
    (keeping (pass t s.slots (row * 2 ^ t)) s)
    (counting (pass t s.slots (row * 2 ^ t)) s)

-- Lines 3 to 24.
unfoldable pub steps : ℕ → List ℕ → Working → Working
steps t [] s = s
steps t (row ∷ rows) s = steps t rows (step t row s)

unfoldable pub algorithm2 : ℕ → ℕ → List ℕ → Working
algorithm2 t d rows = steps t rows (start d)

-- Line 26: exactly n kept rows have N* uses or more.
abbrev pub Parting : ℕ → List ℕ → ℕ → Type 0
Parting n us least = count (leb least) us ≡ n
