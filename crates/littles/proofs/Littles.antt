-- Bytes with the first lowest: eight of them as a number, of a sum, and when they are none; and the bytes of a number, one by one and back.
-- Assumes nothing.
use mathlib.Core.Path.{◌≡◌, refl, sym, ap, ap₂, ◌∙◌}
use mathlib.Core.List.{List, [], ◌∷◌}
use Prim.Native.Nat.{ℕ, zero, suc, min, ◌+◌, ◌-◌, ◌*◌, ◌/◌, ◌%◌, ◌^◌, ◌≤◌, ◌<◌}
use native.Mathlib.Nat.{div-one, mod-lt}
use native.Mathlib.Omega.{arith}
use lib.Bits.{bit_xor, xor_block, xor_shr, xor_mod}
use lib.Dec.{lit<}
use lib.Pow.{shr-shr}
use lib.ListN.{length, take, drop, get_or, length-take, length-drop}
use lib.Seq.{get_or-take, get_or-drop}
use borrow.Author.Tests.{le-leb}
use Rattle.space.specs.Space.{◌⊕◌}
use Rattle.space.specs.Lists.{Below}
use Rattle.octets.specs.Octets.{xor_bytes}
use Rattle.octets.proofs.Runs.{below_parts}
use Rattle.octets.proofs.Xors.{length-xor_bytes, drop-xor_bytes, take-xor_bytes}
use Rattle.std.proofs.Common.{w64}
use Rattle.std.specs.Int.{from_le_bytes}
use Rattle.words.proofs.Eights.{eight_of}
use Rattle.littles.specs.Littles.{little_of, little_at, little_bytes}

-- the number that std reads from eight bytes
pub eight_little : (v : List ℕ) → length v ≡ 8 → from_le_bytes w64 v ≡ little_of v
unfolding little_of
eight_little v h = rw (eight_of v h) (omega arith)

pub little_inside : (i : ℕ) (bs : List ℕ) → i + 8 ≤ length bs → little_at i bs ≡ little_of (take 8 (drop i bs))
unfolding little_at
little_inside i bs h = rw (le-leb (i + 8) (length bs) h)

-- ---- of a sum

little_sum : (a c : List ℕ) → length a ≡ length c → Below 256 a → Below 256 c → little_of (xor_bytes a c) ≡ little_of a ⊕ little_of c
unfolding little_of xor_bytes ◌⊕◌
little_sum [] [] e p q = refl
little_sum [] (y ∷ c) e p q = absurd (omega arith)
little_sum (x ∷ a) [] e p q = absurd (omega arith)
little_sum (x ∷ a) (y ∷ c) e p q =
    ap (λ (z : ℕ). z * 256 + bit_xor x y) (little_sum a c (omega arith) p.1 q.1) ∙ sym (xor_block 8 (little_of a) (little_of c) x y p.0 q.0)

module _ (i : ℕ) (a c : List ℕ) (e : length a ≡ length c) (p : Below 256 a) (q : Below 256 c) (h : i + 8 ≤ length a) where
  pub little_⊕ : little_at i (xor_bytes a c) ≡ little_at i a ⊕ little_at i c
  little_⊕ =
      let s : length (drop i a) ≡ length (drop i c) = length-drop i a ∙ ap (λ (k : ℕ). k - i) e ∙ sym (length-drop i c) in
      let t : length (take 8 (drop i a)) ≡ length (take 8 (drop i c)) = length-take 8 (drop i a) ∙ ap (min 8) s ∙ sym (length-take 8 (drop i c)) in
      rw (little_inside i a h, little_inside i c (omega arith), little_inside i (xor_bytes a c) (omega (arith, length-xor_bytes a c e)))
      (ap (λ (v : List ℕ). little_of (take 8 v)) (drop-xor_bytes i a c e) ∙ ap little_of (take-xor_bytes 8 (drop i a) (drop i c))
      ∙ little_sum (take 8 (drop i a)) (take 8 (drop i c)) t (below_parts 256 8 (drop i a) (below_parts 256 i a p).1).0 (below_parts 256 8 (drop i c) (below_parts 256 i c q).1).0)

-- ---- when no byte is set

none_little : (v : List ℕ) → little_of v ≡ 0 → Below 1 v
unfolding little_of
none_little [] e = tt
none_little (x ∷ v) e = (omega arith, none_little v (omega arith))

little_none : (v : List ℕ) → Below 1 v → little_of v ≡ 0
unfolding little_of
little_none [] b = refl
little_none (x ∷ v) b = omega (arith, b.0, little_none v b.1)

get_or_below : (m : ℕ) (v : List ℕ) (j : ℕ) → j < length v → Below m v → get_or v j 0 < m
get_or_below m [] j h b = absurd (omega arith)
get_or_below m (x ∷ v) zero h b = b.0
get_or_below m (x ∷ v) (suc j) h b = get_or_below m v j (omega arith) b.1

module _ (i : ℕ) (v : List ℕ) (h : i + 8 ≤ length v) where
  pub little_zero : Below 1 v → little_at i v ≡ 0
  little_zero b = little_inside i v h ∙ little_none (take 8 (drop i v)) (below_parts 1 8 (drop i v) (below_parts 1 i v b).1).0

  -- each of the eight
  pub zero_little : little_at i v ≡ 0 → (j : ℕ) → i ≤ j → j < i + 8 → get_or v j 0 < 1
  zero_little e j l m =
      let k : i + (j - i) ≡ j = omega arith in
      let size : length (take 8 (drop i v)) ≡ min 8 (length v - i) = length-take 8 (drop i v) ∙ ap (min 8) (length-drop i v) in
      let same : get_or (take 8 (drop i v)) (j - i) 0 ≡ get_or v j 0 =
      get_or-take 8 (drop i v) (j - i) 0 (omega arith) ∙ get_or-drop i v (j - i) 0 ∙ ap (λ (n : ℕ). get_or v n 0) k in
      rw same at (get_or_below 1 (take 8 (drop i v)) (j - i) (omega arith) (none_little (take 8 (drop i v)) (sym (little_inside i v h) ∙ e)))

-- ---- the bytes of a number

pub length-little_bytes : (w x : ℕ) → length (little_bytes w x) ≡ w
unfolding little_bytes
length-little_bytes zero x = refl
length-little_bytes (suc w) x = ap suc (length-little_bytes w (x / 256))

pub little_bytes_below : (w x : ℕ) → Below 256 (little_bytes w x)
unfolding little_bytes
little_bytes_below zero x = tt
little_bytes_below (suc w) x = (mod-lt x (lit< tt), little_bytes_below w (x / 256))

pub get_or-little_bytes : (w x i : ℕ) → i < w → get_or (little_bytes w x) i 0 ≡ x / 2 ^ (8 * i) % 256
unfolding little_bytes
get_or-little_bytes zero x i h = absurd (omega arith)
get_or-little_bytes (suc w) x zero h = ap (λ (y : ℕ). y % 256) (sym (div-one x))
get_or-little_bytes (suc w) x (suc i) h =
    get_or-little_bytes w (x / 256) i (omega arith) ∙ ap (λ (y : ℕ). y % 256) (shr-shr x 8 (8 * i) ∙ ap (λ (e : ℕ). x / 2 ^ e) (omega arith))

pub little_bytes-⊕ : (w a b : ℕ) → little_bytes w (a ⊕ b) ≡ xor_bytes (little_bytes w a) (little_bytes w b)
unfolding little_bytes xor_bytes ◌⊕◌
little_bytes-⊕ zero a b = refl
little_bytes-⊕ (suc w) a b = ap₂ (λ x t. x ∷ t) (xor_mod a b 8) (ap (little_bytes w) (xor_shr a b 8) ∙ little_bytes-⊕ w (a / 256) (b / 256))

-- back to the bytes that the number was read from
pub little_bytes-little_of : (bs : List ℕ) → Below 256 bs → little_bytes (length bs) (little_of bs) ≡ bs
unfolding little_bytes little_of
little_bytes-little_of [] b = refl
little_bytes-little_of (x ∷ bs) b =
    let low : (little_of bs * 256 + x) % 256 ≡ x = omega (arith, b.0) in
    let high : (little_of bs * 256 + x) / 256 ≡ little_of bs = omega (arith, b.0) in
    ap₂ (λ y t. y ∷ t) low (ap (little_bytes (length bs)) high ∙ little_bytes-little_of bs b.1)
