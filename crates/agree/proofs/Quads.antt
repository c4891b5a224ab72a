-- Four words in place of 8 to 32 bytes: those of a sum are the sum of the words, and none has a bit exactly where no byte has.
-- Assumes nothing.
use mathlib.Core.Path.{◌≡◌, refl, sym, ap, ◌∙◌}
use mathlib.Core.List.{List}
use mathlib.Core.Bool.{Bool, true, false, ◌&&◌, true≢false}
use Prim.Native.Nat.{ℕ, min, ◌+◌, ◌-◌, ◌*◌, ◌/◌, ◌≤◌, ◌<◌}
use native.Mathlib.Decide.{dec_lt}
use native.Mathlib.Omega.{arith}
use lib.Dec.{eqb}
use lib.ListN.{length, take, drop, get_or}
use borrow.Author.Tests.{eq-eqb, ne_eqb, eqb-true}
use Rattle.space.specs.Space.{◌⊕◌}
use Rattle.space.specs.Lists.{Below}
use Rattle.space.proofs.Both.{both}
use Rattle.space.proofs.Lists.{below_each}
use Rattle.space.proofs.Xor.{eqb_⊕_zero}
use Rattle.space.proofs.SumBy.{sum_by_lt}
use Rattle.octets.specs.Octets.{number, bytes, xor_bytes}
use Rattle.octets.proofs.Numbers.{number-⊕, number-bytes, number_zero, zero_number, length-bytes, bytes_below, bytes-⊕}
use Rattle.octets.proofs.Xors.{length-xor_bytes, xor_bytes_below, xor_bytes_assoc}
use Rattle.littles.specs.Littles.{little_at}
use Rattle.littles.proofs.Littles.{little_⊕, little_zero, zero_little}
use Rattle.rows.specs.Rows.{named}
use Rattle.rows.specs.Bytes.{cut}
use Rattle.agree.specs.Quads.{quad_of, quad_plus, quad_none}
use Rattle.rows.proofs.Pages.{symbols-small}
use Rattle.rows.proofs.Bits.{symbol-bytes, added, length-added}

-- ---- the words of a sum

quad_plus_lem : (a c : List ℕ) → length a ≡ length c → Below 256 a → Below 256 c → 8 ≤ length a → quad_of (xor_bytes a c) ≡ quad_plus (quad_of a) (quad_of c)
unfolding quad_of quad_plus
quad_plus_lem a c e p q h =
    rw (length-xor_bytes a c e, ← e) (rw (of 0 (omega arith), of (min 8 (length a - 8)) (omega arith), of (min 16 (length a - 8)) (omega arith), of (min 24 (length a - 8)) (omega arith)))
  where
    of : (i : ℕ) → i + 8 ≤ length a → little_at i (xor_bytes a c) ≡ little_at i a ⊕ little_at i c
    of i l = little_⊕ i a c e p q l

-- one symbol more
pub quad_symbol : (payload page : List ℕ) → Below 256 payload → Below 256 page → 8 ≤ length payload → (k : ℕ) → k < length page / length payload → (x : ℕ)
    → quad_plus (quad_of (added payload x)) (quad_of (take (length payload) (drop (k * length payload) page))) ≡ quad_of (added payload (x ⊕ get_or (cut (length payload) page) k 0))
quad_symbol payload page p q low k h x =
    rw (symbol-bytes (length payload) page q k h) (sym (quad_plus_lem (added payload x) (bytes (length payload) s) (length-added payload x ∙ sym (length-bytes (length payload) s))
    (xor_bytes_below payload (bytes (length payload) x) p (bytes_below (length payload) x)) (bytes_below (length payload) s) (omega (arith, length-added payload x)))
    ∙ ap quad_of (xor_bytes_assoc payload (bytes (length payload) x) (bytes (length payload) s) ∙ ap (xor_bytes payload) (sym (bytes-⊕ (length payload) x s))))
  where
    s : ℕ
    s = get_or (cut (length payload) page) k 0

-- ---- no bit is set

module _ (v : List ℕ) (low : 8 ≤ length v) (high : length v ≤ 32) where
  -- each byte lies in one of the words
  covered : little_at 0 v ≡ 0 → little_at (min 8 (length v - 8)) v ≡ 0 → little_at (min 16 (length v - 8)) v ≡ 0 → little_at (min 24 (length v - 8)) v ≡ 0 → Below 1 v
  covered a b c d = below_each 1 v (λ j h. from-0 j h (dec_lt j 8))
    where
      from-16 : (j : ℕ) → j < length v → 16 ≤ j → Dec (j < 24) → get_or v j 0 < 1
      from-16 j h l (yes m) = zero_little (min 16 (length v - 8)) v (omega arith) c j (omega arith) (omega arith)
      from-16 j h l (no m) = zero_little (min 24 (length v - 8)) v (omega arith) d j (omega arith) (omega arith)

      from-8 : (j : ℕ) → j < length v → 8 ≤ j → Dec (j < 16) → get_or v j 0 < 1
      from-8 j h l (yes m) = zero_little (min 8 (length v - 8)) v (omega arith) b j (omega arith) (omega arith)
      from-8 j h l (no m) = from-16 j h (omega arith) (dec_lt j 24)

      from-0 : (j : ℕ) → j < length v → Dec (j < 8) → get_or v j 0 < 1
      from-0 j h (yes m) = zero_little 0 v (omega arith) a j (omega arith) (omega arith)
      from-0 j h (no m) = from-8 j h (omega arith) (dec_lt j 16)

  none_number : quad_none (quad_of v) ≡ true → number v ≡ 0
  unfolding quad_none quad_of
  none_number e =
      let q = quad_of v in
      let t = both (eqb q.a 0) (eqb q.b 0 && (eqb q.c 0 && eqb q.d 0)) e in
      let u = both (eqb q.b 0) (eqb q.c 0 && eqb q.d 0) t.1 in
      let w = both (eqb q.c 0) (eqb q.d 0) u.1 in
      number_zero v (covered (eqb-true q.a 0 t.0) (eqb-true q.b 0 u.0) (eqb-true q.c 0 w.0) (eqb-true q.d 0 w.1))

  number_none : number v ≡ 0 → quad_none (quad_of v) ≡ true
  unfolding quad_none quad_of
  number_none e =
      rw (at 0 (omega arith), at (min 8 (length v - 8)) (omega arith), at (min 16 (length v - 8)) (omega arith), at (min 24 (length v - 8)) (omega arith))
    where
      at : (i : ℕ) → i + 8 ≤ length v → little_at i v ≡ 0
      at i h = little_zero i v h (zero_number v e)

  quad_none_lem : quad_none (quad_of v) ≡ eqb (number v) 0
  quad_none_lem = go (quad_none (quad_of v)) refl
    where
      go : (r : Bool) → quad_none (quad_of v) ≡ r → r ≡ eqb (number v) 0
      go true e = sym (eq-eqb (number v) 0 (none_number e))
      go false e = sym (ne_eqb (number v) 0 (λ z. true≢false (sym (number_none z) ∙ e)))

-- a payload and the symbols that are named leave nothing exactly where it is their sum
pub quad_sum : (payload page : List ℕ) (names : ℕ) → Below 256 payload → Below 256 page → 8 ≤ length payload → length payload ≤ 32
    → quad_none (quad_of (added payload (named (cut (length payload) page) names))) ≡ eqb (number payload) (named (cut (length payload) page) names)
quad_sum payload page names p q low high =
    let l : ℕ = length payload in
    let s : ℕ = named (cut l page) names in
    let size : length (added payload s) ≡ l = length-added payload s in
    quad_none_lem (added payload s) (omega (arith, size)) (omega (arith, size))
    ∙ ap (λ (n : ℕ). eqb n 0) (number-⊕ payload (bytes l s) (sym (length-bytes l s)) p (bytes_below l s)
    ∙ ap (λ (n : ℕ). number payload ⊕ n) (number-bytes l s (sum_by_lt (8 * l) (cut l page) (symbols-small (length page / l) l page q) names)))
    ∙ eqb_⊕_zero (number payload) s
