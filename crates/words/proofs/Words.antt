-- The eight bytes from an index on as one number: inside the run, at its end and past it; among the digits of the run's number; of a sum.
-- Assumes nothing.
use mathlib.Core.Path.{◌≡◌, sym, ap, ◌∙◌}
use mathlib.Core.List.{List, [], ◌∷◌, ◌++◌}
use Prim.Native.Nat.{ℕ, ◌+◌, ◌-◌, ◌*◌, ◌/◌, ◌%◌, ◌^◌, ◌≤◌, ◌<◌}
use native.Mathlib.Nat.{mod-eq_of_lt, lt_of_lt_of_le}
use native.Mathlib.Omega.{arith}
use lib.Pow.{pow_mono, shl_exact}
use lib.ListN.{length, take, drop, replicate, length-append, length-drop, length-replicate, replicate-append-replicate}
use lib.Seq.{length-take-le, take-add, take_at, take-take, drop_at, take-append-le, take-append-add, drop-append-le}
use Rattle.space.specs.Space.{◌⊕◌}
use Rattle.space.specs.Lists.{Below}
use Rattle.space.proofs.Lists.{below_append}
use Rattle.octets.specs.Octets.{number, xor_bytes}
use Rattle.octets.proofs.Numbers.{number-⊕, number_lt, bytes_below}
use Rattle.octets.proofs.Digits.{number-front, number-back, bytes_zero}
use Rattle.octets.proofs.Loaded.{number-zeros, number_loaded}
use Rattle.octets.proofs.Runs.{below_parts}
use Rattle.octets.proofs.Xors.{xor_bytes_self, xor_bytes-append, drop-xor_bytes, take-xor_bytes}
use Rattle.words.specs.Words.{word_at}

-- ---- where the bytes lie

module _ (i : ℕ) (bs : List ℕ) where
  pub word_inside : i + 8 ≤ length bs → number (take 8 (drop i bs)) ≡ word_at i bs
  unfolding word_at
  word_inside h = ap number (sym (take-append-le 8 (drop i bs) (replicate 8 0) (omega (arith, length-drop i bs))))

  pub word_past : length bs ≤ i → word_at i bs ≡ 0
  unfolding word_at
  word_past h = go (drop i bs) (length-drop i bs)
    where
      go : (d : List ℕ) → length d ≡ length bs - i → number (take 8 (d ++ replicate 8 0)) ≡ 0
      go [] e = number-zeros 8
      go (x ∷ d) e = absurd (omega arith)

  -- the last n of them inside, fewer than eight
  module _ (n : ℕ) (b : Below 256 bs) (e : length bs ≡ i + n) (h : n < 8) where
    size : length (drop i bs) ≡ n
    size = length-drop i bs ∙ omega arith

    few : number (drop i bs) < 2 ^ (8 * n)
    few = rw size at (number_lt (drop i bs) (below_parts 256 i bs b).1)

    last : take 8 (drop i bs ++ replicate 8 0) ≡ drop i bs ++ replicate (8 - n) 0
    last =
        let all : length (drop i bs) + (8 - n) ≡ 8 = omega (arith, size) in
        let eight : 8 - n + n ≡ 8 = omega arith in
        let zeros : ◌++◌ {A = ℕ} (replicate (8 - n) 0) (replicate n 0) ≡ replicate 8 0 = replicate-append-replicate (8 - n) n 0 ∙ ap (λ (k : ℕ). replicate {A = ℕ} k 0) eight in
        ap (λ (k : ℕ). take k (drop i bs ++ replicate 8 0)) (sym all) ∙ take-append-add (drop i bs) (replicate 8 0) (8 - n)
        ∙ ap (λ (t : List ℕ). drop i bs ++ t) (ap (take (8 - n)) (sym zeros) ∙ take_at (replicate {A = ℕ} (8 - n) 0) (replicate n 0) (8 - n) (length-replicate {A = ℕ} (8 - n) 0))

    pub word_end : number (drop i bs) % 2 ^ 64 * 2 ^ (8 * (8 - n)) % 2 ^ 64 ≡ word_at i bs
    unfolding word_at
    word_end =
        let most : 8 * n ≤ 64 = omega arith in
        rw (mod-eq_of_lt (lt_of_lt_of_le few (pow_mono most)))
        (shl_exact {a = number (drop i bs)} (8 * n) (8 * (8 - n)) 64 few (omega arith) ∙ sym (ap number last ∙ number_loaded (drop i bs) (8 - n)))

-- ---- among the digits of the whole number

below_zeros : (n : ℕ) → Below 256 (replicate n 0)
below_zeros n = rw (bytes_zero n) at (bytes_below n 0)

module _ (i : ℕ) (bs : List ℕ) (b : Below 256 bs) (h : i ≤ length bs) where
  -- the run with eight zeros behind it, in which all eight bytes lie
  abbrev more : List ℕ
  more = bs ++ replicate 8 0

  length_more : length more ≡ i + 8 + (length bs - i)
  length_more = length-append bs (replicate 8 0) ∙ omega arith

  below_more : Below 256 more
  below_more = below_append 256 bs (replicate 8 0) b (below_zeros 8)

  part : drop i (take (i + 8) more) ≡ take 8 (drop i bs ++ replicate 8 0)
  part =
      rw (take-add i 8 more) (drop_at (take i more) (take 8 (drop i more)) i (length-take-le i more (omega (arith, length_more)))
      ∙ ap (take 8) (drop-append-le i bs (replicate 8 0) h))

  pub word_number : word_at i bs ≡ number bs * 2 ^ 64 / 2 ^ (8 * (length bs - i)) % 2 ^ 64
  unfolding word_at
  word_number = sym (
      ap (λ (x : ℕ). x / 2 ^ (8 * (length bs - i)) % 2 ^ 64) (sym (number_loaded bs 8))
      ∙ ap (λ (x : ℕ). x % 2 ^ 64) (number-front (i + 8) (length bs - i) more below_more length_more)
      ∙ number-back i 8 (take (i + 8) more) (below_parts 256 (i + 8) more below_more).0 (length-take-le (i + 8) more (omega (arith, length_more)))
      ∙ ap number part)

-- ---- eight bytes, whatever the run

taken : ℕ → List ℕ → List ℕ
taken i bs = take 8 (drop i bs ++ replicate 8 0)

length_taken : (i : ℕ) (bs : List ℕ) → length (taken i bs) ≡ 8
unfolding taken
length_taken i bs = length-take-le 8 (drop i bs ++ replicate 8 0) (omega (arith, length-append (drop i bs) (replicate 8 0)))

below_taken : (i : ℕ) (bs : List ℕ) → Below 256 bs → Below 256 (taken i bs)
unfolding taken
below_taken i bs b = (below_parts 256 8 (drop i bs ++ replicate 8 0) (below_append 256 (drop i bs) (replicate 8 0) (below_parts 256 i bs b).1 (below_zeros 8))).0

pub word_lt : (i : ℕ) (bs : List ℕ) → Below 256 bs → word_at i bs < 2 ^ 64
unfolding word_at taken
word_lt i bs b = rw (length_taken i bs) at (number_lt (taken i bs) (below_taken i bs b))

-- ---- of a sum

pub word_⊕ : (i : ℕ) (a c : List ℕ) → length a ≡ length c → Below 256 a → Below 256 c → word_at i (xor_bytes a c) ≡ word_at i a ⊕ word_at i c
unfolding word_at taken
word_⊕ i a c e p q =
    let s : length (drop i a) ≡ length (drop i c) = length-drop i a ∙ ap (λ (k : ℕ). k - i) e ∙ sym (length-drop i c) in
    ap (λ (t : List ℕ). number (take 8 (t ++ replicate 8 0))) (drop-xor_bytes i a c e)
    ∙ ap (λ (t : List ℕ). number (take 8 (xor_bytes (drop i a) (drop i c) ++ t))) (sym (xor_bytes_self (replicate 8 0)))
    ∙ ap (λ (t : List ℕ). number (take 8 t)) (sym (xor_bytes-append (drop i a) (drop i c) (replicate 8 0) (replicate 8 0) s))
    ∙ ap number (take-xor_bytes 8 (drop i a ++ replicate 8 0) (drop i c ++ replicate 8 0))
    ∙ number-⊕ (taken i a) (taken i c) (length_taken i a ∙ sym (length_taken i c)) (below_taken i a p) (below_taken i c q)

-- ---- its first bytes

pub word_front : (i l : ℕ) (bs : List ℕ) → Below 256 bs → i + l ≤ length bs → l ≤ 8 → word_at i bs / 2 ^ (8 * (8 - l)) ≡ number (take l (drop i bs))
unfolding word_at taken
word_front i l bs b h few =
    number-front l (8 - l) (taken i bs) (below_taken i bs b) (length_taken i bs ∙ omega arith)
    ∙ ap number (take-take l 8 (drop i bs ++ replicate 8 0) few ∙ take-append-le l (drop i bs) (replicate 8 0) (omega (arith, length-drop i bs)))
