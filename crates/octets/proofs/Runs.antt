-- Runs of numbers of one width, as bytes: there and back; and a buffer whose front is written.
-- Assumes nothing.
use mathlib.Core.Path.{◌≡◌, refl, sym, ap, ap₂, ◌∙◌}
use Prim.Native.Nat.{ℕ, zero, suc, ◌*◌, ◌^◌, ◌≤◌, ◌<◌}
use native.Mathlib.Nat.{zero-mul, suc-mul, add_comm, lt_of_lt_of_le}
use native.Mathlib.Omega.{arith}
use mathlib.Core.List.{List, [], ◌∷◌, ◌++◌, append_assoc, append-nil}
use lib.Pow.{pow_mono}
use lib.ListN.{length, take, drop, get_or, length-append, length-take, length-drop, take-append-drop}
use lib.Seq.{take_at, drop_at, drop-drop, length-take-le}
use mir.Syntax.{w8}
use mir.Val.{Fits}
use Rattle.space.specs.Lists.{Below}
use Rattle.space.proofs.Lists.{below_append, below_split}
use Rattle.octets.specs.Octets.{number, bytes, numbers, flat, over}
use Rattle.octets.proofs.Numbers.{number_lt, number-bytes, bytes-number, length-bytes, bytes_below}

-- ---- parts of a run

pub below_parts : (m k : ℕ) (xs : List ℕ) → Below m xs → Below m (take k xs) × Below m (drop k xs)
below_parts m k xs b = below_split m (take k xs) (drop k xs) (rw (take-append-drop k xs) b)

pub length-numbers : (w m : ℕ) (bs : List ℕ) → length (numbers w m bs) ≡ m
unfolding numbers
length-numbers w zero bs = refl
length-numbers w (suc m) bs = ap suc (length-numbers w m (drop w bs))

pub length-flat : (w : ℕ) (xs : List ℕ) → length (flat w xs) ≡ length xs * w
unfolding flat
length-flat w [] = sym (zero-mul w)
length-flat w (x ∷ xs) = length-append (bytes w x) (flat w xs) ∙ omega (arith, length-bytes w x, length-flat w xs)

pub flat_below : (w : ℕ) (xs : List ℕ) → Below 256 (flat w xs)
unfolding flat
flat_below w [] = tt
flat_below w (x ∷ xs) = below_append 256 (bytes w x) (flat w xs) (bytes_below w x) (flat_below w xs)

pub flat_append : (w : ℕ) (xs ys : List ℕ) → flat w (xs ++ ys) ≡ flat w xs ++ flat w ys
unfolding flat
flat_append w [] ys = refl
flat_append w (x ∷ xs) ys = rw (flat_append w xs ys) (sym (append_assoc (bytes w x) (flat w xs) (flat w ys)))

pub flat-snoc : (w : ℕ) (xs : List ℕ) (x : ℕ) → flat w (xs ++ (x ∷ [])) ≡ flat w xs ++ bytes w x
unfolding flat
flat-snoc w xs x = flat_append w xs (x ∷ []) ∙ ap (λ t. flat w xs ++ t) (append-nil (bytes w x))

-- of a run of any length: where bytes are missing, the number is smaller
pub numbers-small : (w m : ℕ) (bs : List ℕ) → Below 256 bs → Below (2 ^ (8 * w)) (numbers w m bs)
unfolding numbers
numbers-small w zero bs b = tt
numbers-small w (suc m) bs b =
    let parts : Below 256 (take w bs) × Below 256 (drop w bs) = below_parts 256 w bs b in
    let short : 8 * length (take w bs) ≤ 8 * w = omega (arith, length-take w bs) in
    (lt_of_lt_of_le (number_lt (take w bs) parts.0) (pow_mono short), numbers-small w m (drop w bs) parts.1)

pub numbers_below : (w m : ℕ) (bs : List ℕ) → length bs ≡ m * w → Below 256 bs → Below (2 ^ (8 * w)) (numbers w m bs)
numbers_below w m bs e b = numbers-small w m bs b

pub get_or-numbers : (w m : ℕ) (bs : List ℕ) (k : ℕ) → k < m → get_or (numbers w m bs) k 0 ≡ number (take w (drop (k * w) bs))
unfolding numbers
get_or-numbers w zero bs k h = absurd (omega arith)
get_or-numbers w (suc m) bs zero h = ap (λ (j : ℕ). number (take w (drop j bs))) (sym (zero-mul w))
get_or-numbers w (suc m) bs (suc k) h =
    get_or-numbers w m (drop w bs) k (omega arith) ∙ ap (λ t. number (take w t)) (drop-drop (k * w) w bs ∙ ap (λ (j : ℕ). drop j bs) (add_comm w (k * w) ∙ sym (suc-mul k w)))

-- what owning a slice of bytes tells of them
pub known_below : (bs : List ℕ) → ((i : ℕ) → Fits w8 (get_or bs i 0)) → Below 256 bs
known_below [] known = tt
known_below (x ∷ bs) known = ((known 0).fits, known_below bs (λ i. known (suc i)))

-- ---- there and back

pub numbers-flat : (w : ℕ) (xs : List ℕ) → Below (2 ^ (8 * w)) xs → numbers w (length xs) (flat w xs) ≡ xs
unfolding numbers flat
numbers-flat w [] b = refl
numbers-flat w (x ∷ xs) b =
    rw (take_at (bytes w x) (flat w xs) w (length-bytes w x)) (rw (drop_at (bytes w x) (flat w xs) w (length-bytes w x))
    (ap₂ (λ y t. y ∷ t) (number-bytes w x b.0) (numbers-flat w xs b.1)))

pub flat-numbers : (w m : ℕ) (bs : List ℕ) → length bs ≡ m * w → Below 256 bs → flat w (numbers w m bs) ≡ bs
unfolding numbers flat
flat-numbers w zero [] e b = refl
flat-numbers w zero (x ∷ bs) e b = absurd (omega (arith, zero-mul w))
flat-numbers w (suc m) bs e b =
    let size : length (take w bs) ≡ w = length-take-le w bs (omega arith) in
    let parts : Below 256 (take w bs) × Below 256 (drop w bs) = below_parts 256 w bs b in
    ap₂ (λ x t. x ++ t) (ap (λ (k : ℕ). bytes k (number (take w bs))) (sym size) ∙ bytes-number (take w bs) parts.0)
    (flat-numbers w m (drop w bs) (omega (arith, length-drop w bs)) parts.1) ∙ take-append-drop w bs

-- ---- a buffer whose front is written

pub length_over : (new old : List ℕ) → length new ≤ length old → length (over new old) ≡ length old
unfolding over
length_over new old h = length-append new (drop (length new) old) ∙ omega (arith, length-drop (length new) old)

pub take-over : (new old : List ℕ) (k : ℕ) → length new ≡ k → take k (over new old) ≡ new
unfolding over
take-over new old k e = take_at new (drop (length new) old) k e

pub over-over : (a b old : List ℕ) → length a ≡ length b → over a (over b old) ≡ over a old
unfolding over
over-over a b old e = rw (drop_at b (drop (length b) old) (length a) (sym e)) (rw e)

pub over_none : (old : List ℕ) → over [] old ≡ old
unfolding over
over_none old = refl
