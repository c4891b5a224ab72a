-- What was noted stays noted, whatever is noted after it, since a bit that is set is never cleared. So a seed that was not noted is none of those that were.
-- Assumes nothing.
use mathlib.Core.Path.{◌≡◌, refl, sym, ap, ap₂, ◌∙◌}
use mathlib.Core.Bool.{Bool, true, false, ◌&&◌}
use mathlib.Core.List.{List, [], ◌∷◌, ◌++◌, Memᴰ}
use Prim.Native.Nat.{ℕ, ◌/◌, ◌%◌, ◌^◌, max, ◌≤◌, ◌<◌}
use native.Mathlib.Nat.{div_self}
use native.Mathlib.Omega.{arith}
use lib.Bits.{bit_or, or_step, or_lt, or_shr}
use lib.Dec.{eqb, lit<}
use lib.ListN.{length, set, get_or, length-set, get_or-append, take, drop, length-take, take-append-drop}
use Rattle.std.proofs.lemmas.List.{set-append_left}
use lib.Pow.{pow_pos, pow-lt}
use lib.Seq.{get_or-set_same, get_or-set_other}
use borrow.Author.Tests.{le-leb, lt-leb, eqb-true, eqb-false, eq-eqb}
use Rattle.space.specs.Lists.{Below}
use Rattle.space.proofs.Lists.{below_at, below_set}
use Rattle.space.proofs.Both.{both, both_true}
use Rattle.filter.specs.Filter.{filter_bytes, byte_of, is_set, with_set, second_bit, noted, note, noting, note_answer, note_filter}

-- ---- by the test that the code makes

module _ (seed : ℕ) (filter : List ℕ) where
  pub note_short : length filter < filter_bytes → (true ≡ note_answer seed filter) × (filter ≡ note_filter seed filter)
  unfolding note_answer note_filter
  note_short h = rw (lt-leb filter_bytes (length filter) h) (refl, refl)

  pub note_is : filter_bytes ≤ length filter → (note_answer seed filter ≡ noted seed filter) × (note_filter seed filter ≡ note seed filter)
  unfolding note_answer note_filter
  note_is h = rw (le-leb filter_bytes (length filter) h) (refl, refl)

-- ---- what stands behind a filter's bytes does not count, and stays

module _ (front back : List ℕ) (h : filter_bytes ≤ length front) where
  at_front : (bit : ℕ) → byte_of bit < length front
  unfolding byte_of filter_bytes
  at_front bit = omega (arith, h)

  is_set-front : (bit : ℕ) → is_set bit (front ++ back) ≡ is_set bit front
  unfolding is_set
  is_set-front bit = rw (get_or-append front back 0 (byte_of bit) (at_front bit))

  pub noted-front : (seed : ℕ) → noted seed (front ++ back) ≡ noted seed front
  unfolding noted
  noted-front seed = ap₂ (λ a b. a && b) (is_set-front seed) (is_set-front (second_bit seed))

  with_set-front : (bit : ℕ) → with_set bit (front ++ back) ≡ with_set bit front ++ back
  unfolding with_set
  with_set-front bit = rw (get_or-append front back 0 (byte_of bit) (at_front bit)) (set-append_left front back (byte_of bit) _ (at_front bit))

length_with : (bit : ℕ) (filter : List ℕ) → length (with_set bit filter) ≡ length filter
unfolding with_set
length_with bit filter = length-set filter _ _

pub note-front : (seed : ℕ) (front back : List ℕ) → filter_bytes ≤ length front → note seed (front ++ back) ≡ note seed front ++ back
unfolding note
note-front seed front back h =
    ap (with_set (second_bit seed)) (with_set-front front back h seed) ∙ with_set-front (with_set seed front) back (rw (length_with seed front) h) (second_bit seed)

-- by the bytes of the filter alone, as they are lent
pub noted_part : (seed : ℕ) (filter front : List ℕ) → filter_bytes ≤ length filter → front ≡ take filter_bytes filter
    → (noted seed front ≡ note_answer seed filter) × (note seed front ++ drop filter_bytes filter ≡ note_filter seed filter)
noted_part seed filter front h e =
    let back : List ℕ = drop filter_bytes filter in
    let parts : front ++ back ≡ filter = rw e (take-append-drop filter_bytes filter) in
    let long : filter_bytes ≤ length front = rw e (omega (arith, length-take filter_bytes filter)) in
    let is = note_is seed filter h in
    (sym (noted-front front back long seed) ∙ ap (noted seed) parts ∙ sym is.0, sym (note-front seed front back long) ∙ ap (note seed) parts ∙ sym is.1)

pub length-note : (seed : ℕ) (filter : List ℕ) → length (note seed filter) ≡ length filter
unfolding note
length-note seed filter = length_with (second_bit seed) (with_set seed filter) ∙ length_with seed filter

pub length-noting : (seeds filter : List ℕ) → length (noting seeds filter) ≡ length filter
unfolding noting
length-noting [] filter = refl
length-noting (seed ∷ seeds) filter = length-noting seeds (note seed filter) ∙ length-note seed filter

-- bytes stay bytes
pub note_below : (seed : ℕ) (filter : List ℕ) → Below 256 filter → Below 256 (note seed filter)
unfolding note
note_below seed filter b = with_below (second_bit seed) (with_set seed filter) (with_below seed filter b)
  where
    with_below : (bit : ℕ) (bytes : List ℕ) → Below 256 bytes → Below 256 (with_set bit bytes)
    with_below bit bytes low =
        let inside : bit % 8 < 8 = omega arith in
        unfold with_set in below_set 256 bytes (byte_of bit) _ low (or_lt 8 (get_or bytes (byte_of bit) 0) (2 ^ (bit % 8)) (below_at 256 bytes (byte_of bit) (lit< tt) low) (pow-lt inside))

-- one more
pub noting-snoc : (seeds : List ℕ) (seed : ℕ) (filter : List ℕ) → noting (seeds ++ (seed ∷ [])) filter ≡ note seed (noting seeds filter)
unfolding noting
noting-snoc [] seed filter = refl
noting-snoc (first ∷ seeds) seed filter = noting-snoc seeds seed (note first filter)

-- ---- one bit

bit_or_lem : (a b k : ℕ) → bit_or a b / 2 ^ k % 2 ≡ max (a / 2 ^ k % 2) (b / 2 ^ k % 2)
bit_or_lem a b k =
    let x = a / 2 ^ k in
    let y = b / 2 ^ k in
    rw (or_shr a b k) (omega (arith, or_step (a / 2 ^ k) (b / 2 ^ k)))

bit_kept : (a b k : ℕ) → a / 2 ^ k % 2 ≡ 1 → bit_or a b / 2 ^ k % 2 ≡ 1
bit_kept a b k h = bit_or_lem a b k ∙ omega (arith, h)

bit_set : (a k : ℕ) → bit_or a (2 ^ k) / 2 ^ k % 2 ≡ 1
bit_set a k = bit_or_lem a (2 ^ k) k ∙ omega (arith, div_self (pow_pos k))

byte_inside : (bit : ℕ) → byte_of bit < filter_bytes
unfolding byte_of filter_bytes
byte_inside bit = omega arith

module _ (bit : ℕ) (filter : List ℕ) (h : filter_bytes ≤ length filter) where
  set_then : is_set bit (with_set bit filter) ≡ true
  unfolding is_set with_set
  set_then =
      rw (get_or-set_same filter (byte_of bit) (bit_or (get_or filter (byte_of bit) 0) (2 ^ (bit % 8))) 0 (omega (arith, byte_inside bit)))
      (eq-eqb _ 1 (bit_set (get_or filter (byte_of bit) 0) (bit % 8)))

  set-stays : (other : ℕ) → is_set bit filter ≡ true → is_set bit (with_set other filter) ≡ true
  unfolding is_set with_set
  set-stays other was = go (eqb (byte_of bit) (byte_of other)) refl
    where
      now : ℕ
      now = bit_or (get_or filter (byte_of other) 0) (2 ^ (other % 8))

      go : (b : Bool) → eqb (byte_of bit) (byte_of other) ≡ b → eqb (get_or (set filter (byte_of other) now) (byte_of bit) 0 / 2 ^ (bit % 8) % 2) 1 ≡ true
      go true e =
          let same : byte_of other ≡ byte_of bit = sym (eqb-true (byte_of bit) (byte_of other) e) in
          rw (ap (λ (at : ℕ). get_or (set filter at now) (byte_of bit) 0) same, get_or-set_same filter (byte_of bit) now 0 (omega (arith, byte_inside bit)))
          (eq-eqb _ 1 (bit_kept (get_or filter (byte_of other) 0) (2 ^ (other % 8)) (bit % 8) (rw same (eqb-true _ 1 was))))
      go false e = rw (get_or-set_other filter (byte_of other) (byte_of bit) now 0 (eqb-false (byte_of bit) (byte_of other) e)) was

-- ---- a seed noted

module _ (seed : ℕ) (filter : List ℕ) (h : filter_bytes ≤ length filter) where
  more : (bit : ℕ) → filter_bytes ≤ length (with_set bit filter)
  more bit = omega (arith, h, length_with bit filter)

  pub noted-note : noted seed (note seed filter) ≡ true
  unfolding noted note
  noted-note =
      both_true _ _ (set-stays seed (with_set seed filter) (more seed) (second_bit seed) (set_then seed filter h))
      (set_then (second_bit seed) (with_set seed filter) (more seed))

  pub noted-stays : (other : ℕ) → noted seed filter ≡ true → noted seed (note other filter) ≡ true
  unfolding noted note
  noted-stays other was =
      let w : (is_set seed filter ≡ true) × (is_set (second_bit seed) filter ≡ true) = both _ _ was in
      both_true _ _ (stays seed w.0) (stays (second_bit seed) w.1)
    where
      stays : (bit : ℕ) → is_set bit filter ≡ true → is_set bit (with_set (second_bit other) (with_set other filter)) ≡ true
      stays bit is = set-stays bit (with_set other filter) (more other) (second_bit other) (set-stays bit filter h other is)

pub noted-later : (seeds filter : List ℕ) (seed : ℕ) → filter_bytes ≤ length filter → noted seed filter ≡ true → noted seed (noting seeds filter) ≡ true
unfolding noting
noted-later [] filter seed h was = was
noted-later (other ∷ seeds) filter seed h was =
    noted-later seeds (note other filter) seed (omega (arith, length-note other filter)) (noted-stays seed filter h other was)

-- a seed is noted that is among those which were
pub noted_mem : (seeds filter : List ℕ) (seed : ℕ) → filter_bytes ≤ length filter → Memᴰ seed seeds → noted seed (noting seeds filter) ≡ true
unfolding noting
noted_mem [] filter seed h x'' = elim x'' [ ]
noted_mem (other ∷ seeds) filter seed h (Memᴰ.head e) =
    noted-later seeds (note other filter) seed (omega (arith, length-note other filter)) (rw e (noted-note other filter h))
noted_mem (other ∷ seeds) filter seed h (Memᴰ.tail m) = noted_mem seeds (note other filter) seed (omega (arith, length-note other filter)) m
