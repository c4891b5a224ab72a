-- The loop of `group`: a word has the digits of work that are left of a run of 64 slots, and the pass has gone by those before them.
-- Assumes nothing.
use mathlib.Core.Path.{◌≡◌, sym, ap, ◌∙◌}
use mathlib.Core.List.{List}
use Prim.Native.Nat.{ℕ, suc, min, ◌+◌, ◌-◌, ◌*◌, ◌/◌, ◌%◌, ◌^◌, ◌≤◌, ◌<◌}
use native.Mathlib.Nat.{mod-lt, mod-eq_of_lt, lt_of_le_of_lt, lt_of_lt_of_le}
use native.Mathlib.Omega.{arith}
use mathlib.Core.Bool.{true, false}
use lib.Bits.{bit_xor, xor_mod}
use lib.Pow.{pow_pos, pow_mono, mod-mod-pow}
use lib.ListN.{length, take, drop}
use Rattle.space.specs.Space.{◌⊕◌}
use Rattle.octets.specs.Octets.{number, add_front}
use Rattle.words.specs.Words.{word_at}
use Rattle.bits.specs.Bits.{highest}
use Rattle.bits.proofs.Bits.{highest_place}
use Rattle.octets.proofs.Digits.{pow_lt_inv}
use Rattle.words.proofs.Words.{word_lt, word_⊕}
use Rattle.octets.proofs.Xors.{add_front-whole}
use Rattle.basis.specs.Algorithm2.{Pass, digit}
use Rattle.basis.proofs.Digits.{top_of, tops_⊕, digit_low, digit_top, digit_mod}
use Rattle.space.specs.Lists.{Below}
use Rattle.slots.specs.Reducing.{rest_from, slots_of, Grouped}
use Rattle.slots.proofs.Fits.{Fits}
use Rattle.slots.proofs.Places.{word_digit}
use Rattle.slots.proofs.Passing.{Passing, pass_from, passing-next, passing_end}
use Rattle.slots.proofs.Found.{Found, slot, slot-room, length-slot, slot_below, found_stop, found_add}

pub record Grouping (key w : ℕ) (slots : List ℕ) (p : Pass) (g : ℕ) (work : List ℕ) (x : ℕ) : Type 0 where
  pub left : ℕ
  pub most : left ≤ 64
  pub rest : x ≡ word_at g work % 2 ^ left
  pub passing : Passing key w slots p work (8 * g + (64 - left))

pub grouping_start : (key w : ℕ) (slots : List ℕ) (p : Pass) (g : ℕ) (work : List ℕ) (x : ℕ) → Passing key w slots p work (8 * g) → x ≡ word_at g work
    → Grouping key w slots p g work x
grouping_start key w slots p g work x P e =
    let here : 8 * g ≡ 8 * g + (64 - 64) = omega arith in
    record { left = 64; most = omega arith; rest = e ∙ sym (mod-eq_of_lt (word_lt g work P.below)); passing = rw here at P }

module _ (key w : ℕ) (slots : List ℕ) (fit : Fits key w (length slots)) (bytes : Below 256 slots) (p : Pass) (g : ℕ) (work : List ℕ) (x : ℕ)
    (G : Grouping key w slots p g work x) where
  -- the digit of a slot that is left
  left-digit : (c u : ℕ) → u + c ≡ 8 * g + 63 → c < G.left → u < 8 * key → digit (8 * w - suc u) (number work) ≡ digit c x
  left-digit c u e l h =
      let long : length work ≡ w = G.passing.long in
      let at : digit c (word_at g work) ≡ digit (8 * w - suc u) (number work) =
      rw long at (word_digit work g c u G.passing.below (omega (arith, fit.inside, G.passing.within)) e (omega (arith, G.most)) (omega (arith, fit.inside))) in
      sym at ∙ sym (digit_mod c G.left (word_at g work) l) ∙ ap (digit c) (sym G.rest)

  -- the word is below 2^m, so no digit before the last m is set
  pass_to : (m v : ℕ) → x < 2 ^ m → 8 * g + (64 - G.left) ≤ v → v ≤ 8 * key → v + m ≤ 8 * g + 64 → Passing key w slots p work v
  pass_to m v h k l e =
      passing-next key w slots p work fit.inside (8 * g + (64 - G.left)) v G.passing k l (λ i a b.
      let at : i + (8 * g + 63 - i) ≡ 8 * g + 63 = omega arith in
      let more : m ≤ 8 * g + 63 - i = omega arith in
      left-digit (8 * g + 63 - i) i at (omega (arith, G.most)) (omega arith) ∙ digit_low (8 * g + 63 - i) x (lt_of_lt_of_le h (pow_mono more)))

  -- no digit is left
  pub grouping_end : x ≡ 0 → Passing key w slots p work (min (8 * g + 64) (8 * key))
  grouping_end e = pass_to 0 (min (8 * g + 64) (8 * key)) (rw e (pow_pos 0)) (omega (arith, G.passing.within)) (omega arith) (omega arith)

  -- the word has 64 digits
  less : x < 2 ^ 64
  less = lt_of_lt_of_le (rw G.rest (mod-lt (word_at g work) (pow_pos G.left))) (pow_mono G.most)

  -- ---- a turn, at the first digit that is left

  module _ (some : 0 < x) (b : ℕ) (first : b ≡ highest x) where
    -- its slot
    abbrev u : ℕ
    u = 8 * g + 63 - b

    pub turn_lower : 2 ^ b ≤ x
    turn_lower = rw first (highest_place x some less).1

    high : x < 2 ^ suc b
    high = rw first (highest_place x some less).2

    -- a slot's word without a digit before this one
    pub turn_top : (y : ℕ) → y / 2 ^ b ≡ 1 → (digit b y ≡ true) × (bit_xor x y % 2 ^ b ≡ bit_xor x y)
    unfolding ◌⊕◌
    turn_top y e =
        let both : bit_xor x y < 2 ^ b = tops_⊕ b x y (record { low = turn_lower; high = high }) (top_of b y e) in
        (digit_top b y (top_of b y e), mod-eq_of_lt both)

    under : b < G.left
    under = pow_lt_inv b G.left (lt_of_le_of_lt turn_lower (rw G.rest (mod-lt (word_at g work) (pow_pos G.left))))

    pub turn_small : b < 64
    turn_small = omega (arith, under, G.most)

    there : u + b ≡ 8 * g + 63
    there = omega (arith, turn_small)

    -- past the last slot
    pub turn_past : 8 * key ≤ u → Passing key w slots p work (8 * key)
    turn_past h = pass_to (suc b) (8 * key) high (omega (arith, G.passing.within)) (omega arith) (omega (arith, turn_small))

    module _ (h : u < 8 * key) where
      found : Found key w slots p work u
      found = record {
        fit = fit;
        bytes = bytes;
        passing = pass_to (suc b) u high (omega (arith, under, G.most)) (omega arith) (omega (arith, turn_small));
        inside = h;
        found = left-digit b u there under h ∙ digit_top b x (record { low = turn_lower; high = high });
      }

      pub turn_room : u * w + w ≤ length slots
      turn_room = slot-room key w slots p work u found

      pub turn_wide : length (take w (drop (u * w) slots)) ≡ w
      turn_wide = length-slot key w slots p work u found

      -- the digit of the slot, by its word
      digit_is : digit b (word_at g (slot key w slots p work u found)) ≡ digit (8 * w - suc u) (number (slot key w slots p work u found))
      digit_is =
          rw turn_wide at (word_digit (slot key w slots p work u found) g b u (slot_below key w slots p work u found) (omega (arith, fit.inside, G.passing.within, turn_wide)) there turn_small
          (omega (arith, fit.inside, turn_wide)))

      -- an empty slot
      pub turn_stop : digit b (word_at g (take w (drop (u * w) slots))) ≡ false → (p.vector ≡ number work) × (p.stop ≡ u)
      turn_stop d = found_stop key w slots p work u found (sym digit_is ∙ d)

      -- the slot added
      pub turn_add : digit b (word_at g (take w (drop (u * w) slots))) ≡ true
          → Grouping key w slots p g (add_front work (take w (drop (u * w) slots))) (bit_xor x (word_at g (take w (drop (u * w) slots))) % 2 ^ b)
      unfolding ◌⊕◌
      turn_add d =
          let s : List ℕ = slot key w slots p work u found in
          let same : length work ≡ length s = G.passing.long ∙ sym turn_wide in
          let sum : word_at g (add_front work s) ≡ bit_xor (word_at g work) (word_at g s) =
          ap (word_at g) (add_front-whole work s same) ∙ word_⊕ g work s same G.passing.below (slot_below key w slots p work u found) in
          let more : G.left - b + b ≡ G.left = omega (arith, under) in
          let low_x : x % 2 ^ b ≡ word_at g work % 2 ^ b = ap (λ (y : ℕ). y % 2 ^ b) G.rest ∙ (rw more at (mod-mod-pow (word_at g work) (G.left - b) b)) in
          let next : u + 1 ≡ 8 * g + (64 - b) = omega (arith, turn_small) in
          record {
            left = b;
            most = omega (arith, turn_small);
            rest = xor_mod x (word_at g s) b ∙ ap (λ (y : ℕ). bit_xor y (word_at g s % 2 ^ b)) low_x ∙ sym (ap (λ (y : ℕ). y % 2 ^ b) sum ∙ xor_mod (word_at g work) (word_at g s) b);
            passing = rw next at (found_add key w slots p work u found (sym digit_is ∙ d));
          }

-- ---- where it ends

module _ (key : ℕ) (slots before after : List ℕ) (g : ℕ) where
  abbrev pass-before : Pass
  pass-before = pass_from key (length before) slots before (8 * g)

  -- behind its slots, or behind them all
  pub grouped_past : (r : ℕ) → key ≤ length before → Passing key (length before) slots pass-before after r → r ≡ min (8 * g + 64) (8 * key) → Grouped key slots before after g r
  unfolding rest_from slots_of
  grouped_past r inside P e = record {
    within = omega arith;
    stopped = λ h.
        let all : 8 * key ≡ r = omega arith in
        let end = passing_end key (length before) slots pass-before after inside r P (omega arith) in
        (end.0, end.1 ∙ all);
    passed = λ h. (omega arith, rw P.long P.vector, rw P.long P.stop);
  }

  -- at an empty slot
  pub grouped_stop : (r : ℕ) → r < 8 * key → r < 8 * g + 64 → (pass-before.vector ≡ number after) × (pass-before.stop ≡ r) → Grouped key slots before after g r
  unfolding rest_from slots_of
  grouped_stop r h l s = record { within = omega arith; stopped = λ k. s; passed = λ k. absurd (omega arith) }
