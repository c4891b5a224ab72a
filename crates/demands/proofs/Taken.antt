-- What holds of every row of a list holds of the rows taken in any order. An arrival outside the list would take the row of zeros, which has no stray
-- bit and agrees with every page.
-- Assumes nothing.
use mathlib.Core.Path.{◌≡◌, ap, ◌∙◌}
use Prim.Native.Nat.{ℕ, zero, suc, ◌*◌, ◌^◌, ◌<◌}
use native.Mathlib.Nat.{zero-mod}
use mathlib.Core.Bool.{true}
use mathlib.Core.List.{List, [], ◌∷◌, map}
use lib.Pow.{pow_pos}
use lib.ListN.{get_or}
use Rattle.space.specs.Lists.{All, Below}
use Rattle.space.proofs.Linear.{map_zero}
use Rattle.space.proofs.SumBy.{sum_by_zero}
use Rattle.rows.specs.Rows.{row_bytes, vector, constraint, payload, agrees}
use Rattle.rows.proofs.Sums.{constraint_zero, payload-⊕}
use Rattle.reading.specs.Orders.{taken}

vector_zero : (l : ℕ) → vector l 0 ≡ 0
unfolding vector
vector_zero l = zero-mod (2 ^ (8 * row_bytes l))

pub constraint_none : (l : ℕ) → constraint l (vector l 0) ≡ 0
constraint_none l = ap (constraint l) (vector_zero l) ∙ constraint_zero l

inside_at : (n l : ℕ) (entries : List ℕ) → Below (2 ^ n) (map (constraint l) (map (vector l) entries)) → (a : ℕ) → constraint l (vector l (get_or entries a 0)) < 2 ^ n
inside_at n l [] b a = rw (constraint_none l) (pow_pos n)
inside_at n l (e ∷ entries) b zero = b.0
inside_at n l (e ∷ entries) b (suc a) = inside_at n l entries b.1 a

pub taken-inside : (n l : ℕ) (entries : List ℕ) → Below (2 ^ n) (map (constraint l) (map (vector l) entries)) → (order : List ℕ)
    → Below (2 ^ n) (map (constraint l) (taken l entries order))
unfolding taken
taken-inside n l entries b [] = tt
taken-inside n l entries b (a ∷ order) = (inside_at n l entries b a, taken-inside n l entries b order)

agrees_at : (l : ℕ) (page entries : List ℕ) → All (agrees l page) (map (vector l) entries) → (a : ℕ) → agrees l page (vector l (get_or entries a 0)) ≡ true
agrees_at l page [] h a = unfold agrees in rw (vector_zero l, map_zero (payload l) (payload-⊕ l), constraint_zero l, sum_by_zero page)
agrees_at l page (e ∷ entries) h zero = h.0
agrees_at l page (e ∷ entries) h (suc a) = agrees_at l page entries h.1 a

pub taken-agree : (l : ℕ) (page entries : List ℕ) → All (agrees l page) (map (vector l) entries) → (order : List ℕ) → All (agrees l page) (taken l entries order)
unfolding taken
taken-agree l page entries h [] = tt
taken-agree l page entries h (a ∷ order) = (agrees_at l page entries h a, taken-agree l page entries h order)
