-- The loops of `tally` and of `tally_word`: uses in pairs of bytes, raised by one set digit after the other, the lowest first.
-- Assumes nothing.
use mathlib.Core.Path.{◌≡◌, refl, sym, ap, ap₂, ◌∙◌}
use mathlib.Core.List.{List, [], ◌∷◌, ◌++◌}
use mathlib.Core.Bool.{Bool, cond}
use Prim.Native.Nat.{ℕ, zero, suc, min, ◌+◌, ◌-◌, ◌*◌, ◌/◌, ◌%◌, ◌^◌, ◌≤◌, ◌<◌}
use native.Mathlib.Decide.{dec_lt}
use native.Mathlib.Nat.{le_refl, mod-lt, mod-eq_of_lt, mod-one, mul-lt-mul_of_pos_right, zero-mul, mul_comm, add-mul, mul-le-mul_right, pow-suc, lt_of_lt_of_le}
use native.Mathlib.Omega.{arith}
use lib.Arith.{digits_lt}
use lib.Dec.{eqb, lit<}
use lib.ListN.{length, get_or, set, take, drop}
use lib.Pow.{pow_pos, pow-add, pow_mono, shr-shr, shl-shr, mod-mod-pow, mod-pow-add}
use lib.Seq.{take_at, drop_at, drop-append-add, take-append_seam, drop-append_seam}
use Rattle.space.specs.Lists.{Below}
use Rattle.octets.specs.Octets.{number, bytes, numbers, flat, over, lay}
use Rattle.words.specs.Words.{word_at}
use Rattle.bits.specs.Bits.{lowest}
use Rattle.words.proofs.Words.{word_number}
use Rattle.bits.proofs.Bits.{Lowest, lowest_place, lowest-above}
use Rattle.octets.proofs.Digits.{pow_lt_inv}
use Rattle.octets.proofs.Numbers.{number-bytes_mod, length-bytes}
use Rattle.octets.proofs.Runs.{length-numbers, length-flat, flat-numbers, numbers_below}
use Rattle.octets.proofs.Lay.{lay_zero, lay-drop}
use Rattle.reading.specs.Raised.{raised}
use Rattle.basis.specs.Algorithm2.{digits}
use Rattle.basis.proofs.Digits.{digits_mod}
use Rattle.tally.specs.Tally.{uses_by, raised_uses, Tallied}

-- ---- one number of a run

pub flat_at : (w : ℕ) (xs : List ℕ) (j : ℕ) → j < length xs → take w (drop (j * w) (flat w xs)) ≡ bytes w (get_or xs j 0)
unfolding flat
flat_at w [] j h = absurd (omega arith)
flat_at w (x ∷ xs) zero h = rw (zero-mul w) (take_at (bytes w x) (flat w xs) w (length-bytes w x))
flat_at w (x ∷ xs) (suc j) h =
    let e : suc j * w ≡ length (bytes w x) + j * w = omega (arith, length-bytes w x) in
    rw e (rw (drop-append-add (bytes w x) (flat w xs) (j * w)) (flat_at w xs j (omega arith)))

pub flat-lay : (w : ℕ) (xs : List ℕ) (j y : ℕ) → j < length xs → lay (j * w) (bytes w y) (flat w xs) ≡ flat w (set xs j y)
unfolding flat
flat-lay w [] j y h = absurd (omega arith)
flat-lay w (x ∷ xs) zero y h = rw (zero-mul w) (lay_zero (bytes w y) (bytes w x ++ flat w xs) ∙ front)
  where
    front : over (bytes w y) (bytes w x ++ flat w xs) ≡ bytes w y ++ flat w xs
    front = unfold over in ap (λ (l : List ℕ). bytes w y ++ l) (drop_at (bytes w x) (flat w xs) (length (bytes w y)) (length-bytes w x ∙ sym (length-bytes w y)))
flat-lay w (x ∷ xs) (suc j) y h =
    let e : suc j * w ≡ length (bytes w x) + j * w = omega (arith, length-bytes w x) in
    rw e (lay-drop (length (bytes w x)) (j * w) (bytes w y) (bytes w x ++ flat w xs)
    ∙ ap₂ (λ a b. a ++ lay (j * w) (bytes w y) b) (take-append_seam (bytes w x) (flat w xs)) (drop-append_seam (bytes w x) (flat w xs))
    ∙ ap (λ (l : List ℕ). bytes w x ++ l) (flat-lay w xs j y (omega arith)))

below_get_or : (m : ℕ) (xs : List ℕ) (j : ℕ) → 0 < m → Below m xs → get_or xs j 0 < m
below_get_or m [] j h b = h
below_get_or m (x ∷ xs) zero h b = b.0
below_get_or m (x ∷ xs) (suc j) h b = below_get_or m xs j h b.1

-- ---- one digit more, above those that are counted

pub length-raised : (n q : ℕ) (us : List ℕ) → length (raised (digits n q) us) ≡ length us
unfolding raised digits
length-raised zero q us = refl
length-raised (suc n) q [] = refl
length-raised (suc n) q (u ∷ us) = ap suc (length-raised n (q / 2) us)

raised_low : (n p q : ℕ) (us : List ℕ) → q < 2 ^ p → get_or (raised (digits n q) us) p 0 ≡ get_or us p 0
unfolding raised digits
raised_low zero p q us h = refl
raised_low (suc n) p q [] h = refl
raised_low (suc n) zero q (u ∷ us) h = let e : q ≡ 0 = omega arith in rw e
raised_low (suc n) (suc p) q (u ∷ us) h = raised_low n p (q / 2) us (omega (arith, pow-suc 2 p))

raised_bit : (n p q : ℕ) (us : List ℕ) → q < 2 ^ p → p < n → p < length us → raised (digits n (2 ^ p + q)) us ≡ set (raised (digits n q) us) p (suc (get_or us p 0))
unfolding raised digits
raised_bit zero p q us h l m = absurd (omega arith)
raised_bit (suc n) p q [] h l m = absurd (omega arith)
raised_bit (suc n) zero q (u ∷ us) h l m = let e : q ≡ 0 = omega arith in rw e
raised_bit (suc n) (suc p) q (u ∷ us) h l m =
    let odd : (2 ^ suc p + q) % 2 ≡ q % 2 = omega (arith, pow-suc 2 p) in
    let half : (2 ^ suc p + q) / 2 ≡ 2 ^ p + q / 2 = omega (arith, pow-suc 2 p) in
    rw (odd, half) (ap (λ (l : List ℕ). cond (eqb (q % 2) 1) (suc u) u ∷ l) (raised_bit n p (q / 2) us (omega (arith, pow-suc 2 p)) (omega arith) (omega arith)))

module _ (us : List ℕ) (p q : ℕ) (b : Below 65536 us) (h : q < 2 ^ p) (l : p < length us) where
  one_more_lem : lay (2 * p) (bytes 2 (number (take 2 (drop (2 * p) (uses_by us q))) + 1)) (uses_by us q) ≡ uses_by us (2 ^ p + q)
  unfolding uses_by
  one_more_lem =
      let long : p < length (raised (digits (length us) q) us) = omega (arith, length-raised (length us) q us) in
      let cell : number (take 2 (drop (p * 2) (flat 2 (raised (digits (length us) q) us)))) ≡ get_or us p 0 =
      ap number (flat_at 2 (raised (digits (length us) q) us) p long) ∙ number-bytes_mod 2 (get_or (raised (digits (length us) q) us) p 0)
      ∙ rw (raised_low (length us) p q us h) (mod-eq_of_lt (below_get_or 65536 us p (lit< tt) b)) in
      let more : get_or us p 0 + 1 ≡ suc (get_or us p 0) = omega arith in
      rw (mul_comm 2 p) (rw (cell, more) (flat-lay 2 (raised (digits (length us) q) us) p (suc (get_or us p 0)) long ∙ ap (flat 2) (sym (raised_bit (length us) p q us h l l))))

pub length-uses_by : (us : List ℕ) (q : ℕ) → length (uses_by us q) ≡ 2 * length us
unfolding uses_by
length-uses_by us q = length-flat 2 (raised (digits (length us) q) us) ∙ ap (λ (n : ℕ). n * 2) (length-raised (length us) q us) ∙ mul_comm (length us) 2

-- ---- the set bits of a word, the lowest first

pub record Counting (j names : ℕ) (before now : List ℕ) (rest : ℕ) : Type 0 where
  pub done : ℕ
  pub m : ℕ
  pub high : ℕ
  pub above : rest ≡ high * 2 ^ m
  pub under : done < 2 ^ m
  pub all : names ≡ done + rest
  pub long : length now ≡ length before
  pub holds : (us : List ℕ) (q : ℕ) → Below 65536 us → q < 2 ^ j → before ≡ uses_by us q → now ≡ uses_by us (done * 2 ^ j + q)

pub counting-start : (j names : ℕ) (before : List ℕ) → Counting j names before before names
counting-start j names before = record {
  done = 0;
  m = 0;
  high = names;
  above = omega arith;
  under = omega arith;
  all = omega arith;
  long = refl;
  holds = λ us q b h e. e ∙ ap (uses_by us) (omega (arith, zero-mul (2 ^ j)));
}

module _ (j names : ℕ) (before now : List ℕ) (rest : ℕ) (C : Counting j names before now rest) where
  pub counting_end : rest ≡ 0 → Tallied j names before now
  counting_end z = record {
    each = λ us q b h e.
        let same : C.done ≡ names = omega (arith, C.all) in
        rw same at (C.holds us q b h e);
  }

  -- the bit that is next
  module _ (some : 0 < rest) (word : names < 2 ^ 64) where
    abbrev k : ℕ
    k = lowest rest

    L : Lowest k rest
    L = lowest_place rest some (omega (arith, C.all))

    -- it stands for a kept place
    pub counting-inside : names * 2 ^ j < 2 ^ (length before / 2) → j + k < length before / 2
    counting-inside h =
        let bit : 2 ^ k ≤ names = omega (arith, L.parts, C.all) in
        let shifted : 2 ^ (j + k) ≡ 2 ^ k * 2 ^ j = pow-add 2 j k ∙ mul_comm (2 ^ j) (2 ^ k) in
        pow_lt_inv (j + k) (length before / 2) (omega (arith, shifted, mul-le-mul_right (2 ^ j) bit))

    fewer : C.m ≤ k
    fewer = lowest-above C.m C.high k (record { above = L.above; parts = sym C.above ∙ L.parts })

    pub counting_more : (next : List ℕ) → length next ≡ length now → j + k < length before / 2
        → next ≡ lay (2 * (j + k)) (bytes 2 (number (take 2 (drop (2 * (j + k)) now)) + 1)) now → Counting j names before next (rest - 2 ^ k)
    counting_more next s i w = record {
      done = C.done + 2 ^ k;
      m = suc k;
      high = L.above;
      above = omega (arith, L.parts);
      under = omega (arith, C.under, pow_mono fewer, pow-suc 2 k);
      all = omega (arith, C.all, L.parts);
      long = s ∙ C.long;
      holds = λ us q b h f.
          let counted : ℕ = C.done * 2 ^ j + q in
          let shifted : 2 ^ (j + k) ≡ 2 ^ k * 2 ^ j = pow-add 2 j k ∙ mul_comm (2 ^ j) (2 ^ k) in
          let small : counted < 2 ^ (j + k) = rw shifted (digits_lt (lt_of_lt_of_le C.under (pow_mono fewer)) h) in
          let inside : j + k < length us = omega (arith, ap length f, length-uses_by us q) in
          let sum : 2 ^ (j + k) + counted ≡ (C.done + 2 ^ k) * 2 ^ j + q = omega (arith, shifted, add-mul C.done (2 ^ k) (2 ^ j)) in
          w ∙ ap (λ (v : List ℕ). lay (2 * (j + k)) (bytes 2 (number (take 2 (drop (2 * (j + k)) v)) + 1)) v) (C.holds us q b h f)
          ∙ one_more_lem us (j + k) counted b small inside ∙ ap (uses_by us) sum;
    }

-- ---- word after word

-- the word whose lowest bit stands for kept place j
word_at_lem : (tail : List ℕ) (i j : ℕ) → Below 256 tail → 8 * (i + 8) + j ≡ 8 * length tail → word_at i tail ≡ number tail / 2 ^ j % 2 ^ 64
word_at_lem tail i j b e =
    let wide : 8 * (length tail - i) ≡ 64 + j = omega arith in
    word_number i tail b (omega arith)
    ∙ rw wide (ap (λ (x : ℕ). x % 2 ^ 64) (sym (shr-shr (number tail * 2 ^ 64) 64 j) ∙ ap (λ (x : ℕ). x / 2 ^ j) (shl-shr (number tail) 64)))

-- what is counted after it
word_more : (q j r : ℕ) → j < r → q / 2 ^ j % 2 ^ 64 % 2 ^ (r - j) * 2 ^ j + q % 2 ^ j ≡ q % 2 ^ min (j + 64) r
word_more q j r h = go (dec_lt (r - j) 64)
  where
    go : Dec (r - j < 64) → q / 2 ^ j % 2 ^ 64 % 2 ^ (r - j) * 2 ^ j + q % 2 ^ j ≡ q % 2 ^ min (j + 64) r
    go (yes l) =
        let e : 64 - (r - j) + (r - j) ≡ 64 = omega arith in
        let m : r - j + j ≡ min (j + 64) r = omega arith in
        let low_part : q / 2 ^ j % 2 ^ 64 % 2 ^ (r - j) ≡ q / 2 ^ j % 2 ^ (r - j) = rw e at (mod-mod-pow (q / 2 ^ j) (64 - (r - j)) (r - j)) in
        rw low_part (sym (mod-pow-add q (r - j) j) ∙ ap (λ (n : ℕ). q % 2 ^ n) m)
    go (no l) =
        let m : 64 + j ≡ min (j + 64) r = omega arith in
        let most : 64 ≤ r - j = omega arith in
        rw (mod-eq_of_lt (lt_of_lt_of_le (mod-lt (q / 2 ^ j) (pow_pos 64)) (pow_mono most))) (sym (mod-pow-add q 64 j) ∙ ap (λ (n : ℕ). q % 2 ^ n) m)

raised_none : (n : ℕ) (us : List ℕ) → raised (digits n 0) us ≡ us
unfolding raised digits
raised_none zero us = refl
raised_none (suc n) [] = refl
raised_none (suc n) (u ∷ us) = ap (λ (l : List ℕ). u ∷ l) (raised_none n us)

uses_by_none : (us : List ℕ) → uses_by us 0 ≡ flat 2 us
unfolding uses_by
uses_by_none us = ap (flat 2) (raised_none (length us) us)

pub record Tallying (r : ℕ) (start tail now : List ℕ) (j : ℕ) : Type 0 where
  pub known : Below 256 start
  pub words : j % 64 ≡ 0
  pub holds : now ≡ uses_by (numbers 2 r start) (number tail % 2 ^ min j r)

module _ (r : ℕ) (start tail : List ℕ) (size : length start ≡ 2 * r) where
  pub tally_start : Below 256 start → Tallying r start tail start 0
  tally_start b =
      let none : min 0 r ≡ 0 = omega arith in
      record {
        known = b;
        words = refl;
        holds = sym (flat-numbers 2 r start (size ∙ mul_comm 2 r) b) ∙ rw (none, mod-one (number tail)) (sym (uses_by_none (numbers 2 r start)));
      }

  -- the word's bits name kept places
  pub tally_fits : (j x : ℕ) → j < r → x < 2 ^ (r - j) → (n : ℕ) → n ≡ 2 * r → x * 2 ^ j < 2 ^ (n / 2)
  tally_fits j x h l n e =
      let half : n / 2 ≡ r = omega arith in
      let all : r - j + j ≡ r = omega arith in
      rw half (rw (sym (pow-add 2 (r - j) j) ∙ ap (λ (k : ℕ). 2 ^ k) all) at (mul-lt-mul_of_pos_right l (pow_pos j)))

  pub tally_more : Below 256 tail → (now next : List ℕ) (i j : ℕ) → Tallying r start tail now j → 8 * (i + 8) + j ≡ 8 * length tail → j < r
      → Tallied j (word_at i tail % 2 ^ (r - j)) now next → Tallying r start tail next (j + 64)
  tally_more known now next i j T there h W = record {
    known = T.known;
    words = omega (arith, T.words);
    holds =
        let here : min j r ≡ j = omega arith in
        let us : List ℕ = numbers 2 r start in
        W.each us (number tail % 2 ^ j) (numbers_below 2 r start (size ∙ mul_comm 2 r) T.known) (mod-lt (number tail) (pow_pos j)) (rw here at T.holds)
        ∙ ap (uses_by us) (ap (λ (x : ℕ). x % 2 ^ (r - j) * 2 ^ j + number tail % 2 ^ j) (word_at_lem tail i j known there) ∙ word_more (number tail) j r h);
  }

  pub tally_end : (now : List ℕ) (j : ℕ) → Tallying r start tail now j → r ≤ j → now ≡ raised_uses r tail start
  unfolding uses_by raised_uses
  tally_end now j T h =
      let all : min j r ≡ r = omega arith in
      (rw all at T.holds) ∙ rw (length-numbers 2 r start) (ap (λ (ds : List Bool). flat 2 (raised ds (numbers 2 r start))) (digits_mod r r (number tail) (le_refl r)))
