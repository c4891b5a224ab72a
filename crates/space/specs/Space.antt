-- Sums of vectors over two elements. A vector is a natural number, its coordinates are the number's binary digits.
use Rattle.std.specs.Prelude.{ℕ, ◌*◌, ◌/◌, ◌%◌, Bool, true, false, cond, not, ◌&&◌, ◌||◌, List, [], ◌∷◌, eqb}
use Rattle.std.specs.Int.Bits.{bit_xor}

-- The sum of two vectors: the exclusive-or of their digits.
infixl 68 ◌⊕◌
unfoldable pub ◌⊕◌ : ℕ → ℕ → ℕ
v ⊕ w = bit_xor v w

-- The sum of those ks that a set marks; the empty sum is 0.
unfoldable pub sum_of : List ℕ → List Bool → ℕ
sum_of [] set = 0
sum_of (k ∷ ks) [] = 0
sum_of (k ∷ ks) (true ∷ set) = k ⊕ sum_of ks set
sum_of (k ∷ ks) (false ∷ set) = sum_of ks set

-- The sum of those ks that the digits of x name: the digit worth 2^k names the one at place k.
unfoldable pub sum_by : List ℕ → ℕ → ℕ
sum_by [] x = 0
sum_by (k ∷ ks) x = x % 2 * k ⊕ sum_by ks (x / 2)

-- Whether v is the sum of some of ks.
unfoldable pub spans : List ℕ → ℕ → Bool
spans [] v = eqb v 0
spans (k ∷ ks) v = spans ks v || spans ks (v ⊕ k)

-- Of which of them.
unfoldable pub set_of : List ℕ → ℕ → List Bool
set_of [] v = []
set_of (k ∷ ks) v = cond (spans ks v) (false ∷ set_of ks v) (true ∷ set_of ks (v ⊕ k))

-- Whether none is the sum of some of those after it.
unfoldable pub independent : List ℕ → Bool
independent [] = true
independent (k ∷ ks) = not (spans ks k) && independent ks
