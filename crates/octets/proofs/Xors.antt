-- Laws of adding runs of bytes bit by bit.
-- Assumes nothing.
use mathlib.Core.Path.{◌≡◌, refl, ap, ap₂}
use Prim.Native.Nat.{ℕ, zero, suc, min, ◌≤◌, ◌<◌}
use native.Mathlib.Omega.{arith}
use mathlib.Core.List.{List, [], ◌∷◌, ◌++◌, append-nil}
use lib.ListN.{length, take, drop, get_or, replicate}
use lib.Seq.{drop-nil, drop-length}
use Rattle.space.specs.Space.{◌⊕◌}
use Rattle.space.specs.Lists.{Below}
use Rattle.space.proofs.Xor.{⊕_comm, ⊕_assoc, ⊕_self, ⊕_zero, ⊕_cancel_r, ⊕_lt}
use Rattle.octets.specs.Octets.{xor_bytes, add_front, over}

pub xor_bytes_comm : (a b : List ℕ) → xor_bytes a b ≡ xor_bytes b a
unfolding xor_bytes
xor_bytes_comm [] [] = refl
xor_bytes_comm [] (y ∷ b) = refl
xor_bytes_comm (x ∷ a) [] = refl
xor_bytes_comm (x ∷ a) (y ∷ b) = ap₂ (λ h t. h ∷ t) (⊕_comm x y) (xor_bytes_comm a b)

pub xor_bytes_assoc : (a b c : List ℕ) → xor_bytes (xor_bytes a b) c ≡ xor_bytes a (xor_bytes b c)
unfolding xor_bytes
xor_bytes_assoc [] b c = refl
xor_bytes_assoc (x ∷ a) [] c = refl
xor_bytes_assoc (x ∷ a) (y ∷ b) [] = refl
xor_bytes_assoc (x ∷ a) (y ∷ b) (z ∷ c) = ap₂ (λ h t. h ∷ t) (⊕_assoc x y z) (xor_bytes_assoc a b c)

pub xor_bytes_self : (a : List ℕ) → xor_bytes a a ≡ replicate (length a) 0
unfolding xor_bytes
xor_bytes_self [] = refl
xor_bytes_self (x ∷ a) = ap₂ (λ h t. h ∷ t) (⊕_self x) (xor_bytes_self a)

pub xor_bytes_zero : (n : ℕ) (a : List ℕ) → length a ≤ n → xor_bytes a (replicate n 0) ≡ a
unfolding xor_bytes
xor_bytes_zero n [] h = refl
xor_bytes_zero zero (x ∷ a) h = absurd (omega arith)
xor_bytes_zero (suc n) (x ∷ a) h = ap₂ (λ h t. h ∷ t) (⊕_zero x) (xor_bytes_zero n a (omega arith))

pub xor_bytes_cancel : (a b : List ℕ) → length a ≤ length b → xor_bytes (xor_bytes a b) b ≡ a
unfolding xor_bytes
xor_bytes_cancel [] b h = refl
xor_bytes_cancel (x ∷ a) [] h = absurd (omega arith)
xor_bytes_cancel (x ∷ a) (y ∷ b) h = ap₂ (λ h t. h ∷ t) (⊕_cancel_r x y) (xor_bytes_cancel a b (omega arith))

pub length-xor_bytes : (a b : List ℕ) → length a ≡ length b → length (xor_bytes a b) ≡ length a
unfolding xor_bytes
length-xor_bytes [] b h = refl
length-xor_bytes (x ∷ a) [] h = absurd (omega arith)
length-xor_bytes (x ∷ a) (y ∷ b) h = ap suc (length-xor_bytes a b (omega arith))

-- of any two lengths
pub length-xor_bytes-min : (a b : List ℕ) → length (xor_bytes a b) ≡ min (length a) (length b)
unfolding xor_bytes
length-xor_bytes-min [] b = omega arith
length-xor_bytes-min (x ∷ a) [] = omega arith
length-xor_bytes-min (x ∷ a) (y ∷ b) = omega (arith, length-xor_bytes-min a b)

pub get_or-xor_bytes : (a b : List ℕ) (i : ℕ) → i < length a → i < length b → get_or (xor_bytes a b) i 0 ≡ get_or a i 0 ⊕ get_or b i 0
unfolding xor_bytes
get_or-xor_bytes [] b i h k = absurd (omega arith)
get_or-xor_bytes (x ∷ a) [] i h k = absurd (omega arith)
get_or-xor_bytes (x ∷ a) (y ∷ b) zero h k = refl
get_or-xor_bytes (x ∷ a) (y ∷ b) (suc i) h k = get_or-xor_bytes a b i (omega arith) (omega arith)

pub xor_bytes_below : (a b : List ℕ) → Below 256 a → Below 256 b → Below 256 (xor_bytes a b)
unfolding xor_bytes
xor_bytes_below [] b h k = tt
xor_bytes_below (x ∷ a) [] h k = tt
xor_bytes_below (x ∷ a) (y ∷ b) h k = (⊕_lt 8 x y h.0 k.0, xor_bytes_below a b h.1 k.1)

pub xor_bytes-append : (a b c d : List ℕ) → length a ≡ length b → xor_bytes (a ++ c) (b ++ d) ≡ xor_bytes a b ++ xor_bytes c d
unfolding xor_bytes
xor_bytes-append [] [] c d h = refl
xor_bytes-append [] (y ∷ b) c d h = absurd (omega arith)
xor_bytes-append (x ∷ a) [] c d h = absurd (omega arith)
xor_bytes-append (x ∷ a) (y ∷ b) c d h = ap (λ t. x ⊕ y ∷ t) (xor_bytes-append a b c d (omega arith))

-- ---- parts of a sum

pub drop-xor_bytes : (i : ℕ) (a b : List ℕ) → length a ≡ length b → drop i (xor_bytes a b) ≡ xor_bytes (drop i a) (drop i b)
unfolding xor_bytes
drop-xor_bytes zero a b e = refl
drop-xor_bytes (suc i) [] [] e = refl
drop-xor_bytes (suc i) [] (y ∷ b) e = absurd (omega arith)
drop-xor_bytes (suc i) (x ∷ a) [] e = absurd (omega arith)
drop-xor_bytes (suc i) (x ∷ a) (y ∷ b) e = drop-xor_bytes i a b (omega arith)

pub take-xor_bytes : (i : ℕ) (a b : List ℕ) → take i (xor_bytes a b) ≡ xor_bytes (take i a) (take i b)
unfolding xor_bytes
take-xor_bytes zero a b = refl
take-xor_bytes (suc i) [] b = refl
take-xor_bytes (suc i) (x ∷ a) [] = refl
take-xor_bytes (suc i) (x ∷ a) (y ∷ b) = ap (λ t. x ⊕ y ∷ t) (take-xor_bytes i a b)

-- ---- bytes added to the front of a buffer

pub add_front-over : (a b : List ℕ) → add_front a b ≡ over (xor_bytes a b) a
unfolding add_front over xor_bytes
add_front-over [] b = ap (λ t. t) (drop-nil (length b))
add_front-over (x ∷ a) [] = refl
add_front-over (x ∷ a) (y ∷ b) = ap (λ t. x ⊕ y ∷ t) (add_front-over a b)

pub add_front-whole : (a b : List ℕ) → length a ≡ length b → add_front a b ≡ xor_bytes a b
unfolding add_front
add_front-whole a b e = rw (← e, drop-length a) (append-nil (xor_bytes a b))

pub length-add_front : (a b : List ℕ) → length (add_front a b) ≡ length a
unfolding add_front xor_bytes
length-add_front [] b = ap length (drop-nil {A = ℕ} (length b))
length-add_front (x ∷ a) [] = refl
length-add_front (x ∷ a) (y ∷ b) = ap suc (length-add_front a b)
