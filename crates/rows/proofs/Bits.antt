-- The sum that a constraint names, one set bit at a time, the lowest first: what a loop over them keeps, whatever it holds the sum in.
-- Assumes nothing.
use mathlib.Core.Path.{◌≡◌, sym, ap, ap₂, ◌∙◌}
use Prim.Native.Nat.{ℕ, suc, ◌+◌, ◌-◌, ◌*◌, ◌/◌, ◌%◌, ◌^◌, ◌≤◌, ◌<◌}
use native.Mathlib.Nat.{le_refl, suc-mul, mul-le-mul_right, div-mul-le_self, le_trans, lt_of_le_of_lt}
use native.Mathlib.Omega.{arith}
use mathlib.Core.List.{List}
use lib.Bits.{bit_xor, xor_comm, xor_shifted}
use lib.Pow.{pow-lt}
use lib.ListN.{length, take, drop, get_or}
use Rattle.space.specs.Space.{◌⊕◌}
use Rattle.space.specs.Lists.{Below}
use Rattle.space.proofs.Xor.{zero_⊕, ⊕_zero, ⊕_assoc}
use Rattle.space.proofs.SumBy.{sum_by-⊕, sum_by_zero, sum_by_unit, sum_by_low}
use Rattle.octets.specs.Octets.{number, bytes, xor_bytes, add_front}
use Rattle.octets.proofs.Numbers.{bytes-number, bytes-⊕, length-bytes}
use Rattle.octets.proofs.Runs.{below_parts, get_or-numbers}
use Rattle.octets.proofs.Digits.{bytes_zero, pow_lt_inv}
use Rattle.octets.proofs.Views.{length_part}
use Rattle.octets.proofs.Xors.{add_front-whole, length-xor_bytes, xor_bytes_assoc, xor_bytes_zero}
use Rattle.bits.specs.Bits.{lowest, TakesLowest}
use Rattle.bits.proofs.Bits.{Lowest, lowest_place, lowest-back}
use Rattle.rows.specs.Rows.{symbols, named}
use Rattle.rows.specs.Bytes.{cut}
use Rattle.rows.proofs.Pages.{length_symbols}

-- ---- the bits of a constraint

pub named-cut : (l : ℕ) (page : List ℕ) (c : ℕ) → named (cut l page) (c % 2 ^ (length page / l)) ≡ named (cut l page) c
named-cut l page c =
    ap (λ (n : ℕ). named (cut l page) (c % 2 ^ n)) (sym (length_symbols (length page / l) l page)) ∙ sum_by_low (cut l page) c

-- the symbol of the lowest set bit, and the sum that the others name
named_bottom : (page : List ℕ) (c : ℕ) → 0 < c → c < 2 ^ 64 → lowest c < length page
    → named page c ≡ get_or page (lowest c) 0 ⊕ named page (c - 2 ^ lowest c)
named_bottom page c some fits h =
    ap (named page) parts ∙ sum_by-⊕ page (2 ^ lowest c) (c - 2 ^ lowest c) ∙ ap (λ x. x ⊕ named page (c - 2 ^ lowest c)) (sum_by_unit page (lowest c) h)
  where
    place : Lowest (lowest c) c
    place = lowest_place c some fits

    rest : c - 2 ^ lowest c ≡ place.above * 2 ^ suc (lowest c)
    rest = omega (arith, place.parts)

    parts : c ≡ 2 ^ lowest c ⊕ (c - 2 ^ lowest c)
    parts =
        unfold ◌⊕◌ in
        (let less : 2 ^ lowest c < 2 ^ suc (lowest c) = pow-lt (omega arith) in
        sym (xor_comm (2 ^ lowest c) (c - 2 ^ lowest c) ∙ ap (λ (x : ℕ). bit_xor x (2 ^ lowest c)) rest
        ∙ xor_shifted place.above (suc (lowest c)) (2 ^ lowest c) less ∙ sym place.parts))

-- ---- the symbol that a bit names

-- it lies inside the page
pub symbol-inside : (l : ℕ) (page : List ℕ) (k : ℕ) → k < length page / l → k * l + l ≤ length page
symbol-inside l page k h = le_trans (rw (← suc-mul k l) (mul-le-mul_right l h)) (div-mul-le_self (length page) l)

pub symbol-number : (l : ℕ) (page : List ℕ) (k : ℕ) → k < length page / l → get_or (cut l page) k 0 ≡ number (take l (drop (k * l) page))
unfolding symbols
symbol-number l page k h = get_or-numbers l (length page / l) page k h

pub symbol-bytes : (l : ℕ) (page : List ℕ) → Below 256 page → (k : ℕ) → k < length page / l → take l (drop (k * l) page) ≡ bytes l (get_or (cut l page) k 0)
symbol-bytes l page b k h =
    let size : length (take l (drop (k * l) page)) ≡ l = length_part l (k * l) page (symbol-inside l page k h) in
    let small : Below 256 (take l (drop (k * l) page)) = (below_parts 256 l (drop (k * l) page) (below_parts 256 (k * l) page b).1).0 in
    sym (bytes-number (take l (drop (k * l) page)) small) ∙ ap₂ bytes size (sym (symbol-number l page k h))

-- ---- a loop over the set bits

-- Where the bits of rest are left to be added: what is held shows the sum of the symbols of the others, and each bit names a symbol of the page.
pub record Adding {A : Type 0} (shows : ℕ → A) (l : ℕ) (page : List ℕ) (names : ℕ) (held : A) (rest : ℕ) : Type 0 where
  pub sum : ℕ
  pub shown : held ≡ shows sum
  pub fits : rest < 2 ^ 64
  pub inside : rest < 2 ^ (length page / l)
  pub whole : sum ⊕ named (cut l page) rest ≡ named (cut l page) names

module _ {A : Type 0} {shows : ℕ → A} {l : ℕ} {page : List ℕ} {names : ℕ} {held : A} where
  pub adding_start : held ≡ shows 0 → names < 2 ^ 64 → names < 2 ^ (length page / l) → Adding shows l page names held names
  adding_start e fits inside = record { sum = 0; shown = e; fits = fits; inside = inside; whole = zero_⊕ (named (cut l page) names) }

  pub adding_end : {rest : ℕ} → Adding shows l page names held rest → rest ≡ 0 → held ≡ shows (named (cut l page) names)
  adding_end {rest} a done =
      let whole = rw done at a.whole in
      a.shown ∙ ap shows (sym (⊕_zero a.sum) ∙ ap (λ (x : ℕ). a.sum ⊕ x) (sym (sum_by_zero (cut l page))) ∙ whole)

  module _ {rest k left : ℕ} (a : Adding shows l page names held rest) (t : TakesLowest rest k left) where
    -- the bit names a symbol of the page, and that lies inside it
    pub adding_bit : k < length page / l
    adding_bit =
        let bit : 2 ^ lowest rest ≤ rest = omega (arith, lowest-back rest t.some a.fits) in
        rw t.lowest_is (pow_lt_inv (lowest rest) (length page / l) (lt_of_le_of_lt bit a.inside))

    pub adding_room : k * l + l ≤ length page
    adding_room = symbol-inside l page k adding_bit

    -- with its symbol added, it is done
    pub adding_less : (next : A) → next ≡ shows (a.sum ⊕ get_or (cut l page) k 0) → Adding shows l page names next left
    adding_less next e =
        let within : lowest rest < length (cut l page) = rw (length_symbols (length page / l) l page, ← t.lowest_is) adding_bit in
        record {
          sum = a.sum ⊕ get_or (cut l page) k 0;
          shown = e;
          fits = omega (arith, a.fits, t.rest_is);
          inside = omega (arith, a.inside, t.rest_is);
          whole =
              rw (t.lowest_is, t.rest_is) (⊕_assoc a.sum (get_or (cut l page) (lowest rest) 0) (named (cut l page) (rest - 2 ^ lowest rest))
              ∙ ap (λ (x : ℕ). a.sum ⊕ x) (sym (named_bottom (cut l page) rest t.some a.fits within)) ∙ a.whole);
        }

-- ---- the sum in bytes

-- What stands there with a number added.
abbrev pub added : List ℕ → ℕ → List ℕ
added old x = xor_bytes old (bytes (length old) x)

pub length-added : (old : List ℕ) (x : ℕ) → length (added old x) ≡ length old
length-added old x = length-xor_bytes old (bytes (length old) x) (sym (length-bytes (length old) x))

pub added_zero : (old : List ℕ) → old ≡ added old 0
added_zero old = sym (rw (bytes_zero (length old)) (xor_bytes_zero (length old) old (le_refl (length old))))

pub added-symbol : (old page : List ℕ) → Below 256 page → (k : ℕ) → k < length page / length old → (x : ℕ)
    → add_front (added old x) (take (length old) (drop (k * length old) page)) ≡ added old (x ⊕ get_or (cut (length old) page) k 0)
added-symbol old page b k h x =
    rw (symbol-bytes (length old) page b k h) (add_front-whole (added old x) (bytes (length old) s) (length-added old x ∙ sym (length-bytes (length old) s))
    ∙ xor_bytes_assoc old (bytes (length old) x) (bytes (length old) s) ∙ ap (xor_bytes old) (sym (bytes-⊕ (length old) x s)))
  where
    s : ℕ
    s = get_or (cut (length old) page) k 0
