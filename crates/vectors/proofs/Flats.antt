-- Words one after the other as bytes: how many there are, of a sum, and one word more; by induction on the words.
-- Assumes nothing.
use mathlib.Core.Path.{◌≡◌, refl, sym, ap, ap₂, ◌∙◌}
use mathlib.Core.List.{List, [], ◌∷◌, ◌++◌, append_assoc, append-nil}
use Prim.Native.Nat.{ℕ, ◌*◌}
use native.Mathlib.Omega.{arith}
use lib.ListN.{length, length-append}
use Rattle.space.specs.Lists.{Below}
use Rattle.space.proofs.Lists.{below_append}
use Rattle.octets.specs.Octets.{xor_bytes}
use Rattle.octets.proofs.Xors.{xor_bytes-append}
use Rattle.littles.specs.Littles.{little_bytes}
use Rattle.littles.proofs.Littles.{length-little_bytes, little_bytes_below, little_bytes-⊕}
use Rattle.vectors.specs.Vectors.{flat_little}

pub length-flat_little : (xs : List ℕ) → length (flat_little xs) ≡ 8 * length xs
unfolding flat_little
length-flat_little [] = refl
length-flat_little (x ∷ xs) = length-append (little_bytes 8 x) (flat_little xs) ∙ omega (arith, length-little_bytes 8 x, length-flat_little xs)

pub flat_little_below : (xs : List ℕ) → Below 256 (flat_little xs)
unfolding flat_little
flat_little_below [] = tt
flat_little_below (x ∷ xs) = below_append 256 (little_bytes 8 x) (flat_little xs) (little_bytes_below 8 x) (flat_little_below xs)

pub flat_little-⊕ : (xs ys : List ℕ) → length xs ≡ length ys → flat_little (xor_bytes xs ys) ≡ xor_bytes (flat_little xs) (flat_little ys)
unfolding flat_little xor_bytes
flat_little-⊕ [] [] e = refl
flat_little-⊕ [] (y ∷ ys) e = absurd (omega arith)
flat_little-⊕ (x ∷ xs) [] e = absurd (omega arith)
flat_little-⊕ (x ∷ xs) (y ∷ ys) e =
    ap₂ (λ s t. s ++ t) (little_bytes-⊕ 8 x y) (flat_little-⊕ xs ys (omega arith))
    ∙ sym (xor_bytes-append (little_bytes 8 x) (little_bytes 8 y) (flat_little xs) (flat_little ys) (length-little_bytes 8 x ∙ sym (length-little_bytes 8 y)))

pub flat_little-snoc : (xs : List ℕ) (x : ℕ) → flat_little (xs ++ (x ∷ [])) ≡ flat_little xs ++ little_bytes 8 x
unfolding flat_little
flat_little-snoc [] x = append-nil (little_bytes 8 x)
flat_little-snoc (y ∷ xs) x = ap (λ t. little_bytes 8 y ++ t) (flat_little-snoc xs x) ∙ sym (append_assoc (little_bytes 8 y) (flat_little xs) (little_bytes 8 x))
