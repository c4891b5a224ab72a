-- What fits a slot and the heads, by the tests that the code makes, in its order; and what is then laid in a part that is lent and comes back.
-- Assumes nothing.
use mathlib.Core.Path.{◌≡◌, refl, sym, ap, ◌∙◌}
use mathlib.Core.Bool.{Bool, true, false, cond}
use mathlib.Core.List.{List, ◌++◌}
use Prim.Native.Nat.{ℕ, ◌+◌, ◌*◌, ◌/◌, ◌^◌, ◌≤◌, ◌<◌}
use native.Mathlib.Nat.{zero-add}
use native.Mathlib.Omega.{arith}
use lib.Dec.{ltb}
use lib.ListN.{length, take, drop}
use lib.Seq.{length-take-le}
use borrow.Author.Tests.{lt-ltb, eq-eqb}
use borrow.Rule.Slice.PartMut.{put_mid}
use Rattle.space.specs.Space.{◌⊕◌}
use Rattle.octets.specs.Octets.{number, bytes, lay}
use Rattle.octets.proofs.Numbers.{length-bytes}
use Rattle.octets.proofs.Lay.{length-lay, over-back, lay_zero, lay-within}
use Rattle.octets.proofs.Parts.{back}
use Rattle.octets.proofs.Views.{length_part}
use Rattle.words.specs.Words.{word_at}
use Rattle.littles.proofs.Littles.{length-little_bytes}
use Rattle.places.specs.Places.{named}
use Rattle.slotting.specs.Slotting.{vector_bytes, fits_slot, slotted, head_in, head_of, headed}

module _ (t : ℕ) (vector : List ℕ) (r : ℕ) (slots : List ℕ) where
  pub slotted_is : length vector ≡ vector_bytes → t < length slots / vector_bytes → slotted t vector r slots ≡ lay (t * vector_bytes) (named r vector) slots
  unfolding slotted fits_slot
  slotted_is a h = rw (eq-eqb (length vector) vector_bytes a, lt-ltb t (length slots / vector_bytes) h)

module _ (t : ℕ) (vector heads : List ℕ) where
  pub headed_is : t / 64 < length heads / 512 → headed t vector heads ≡ lay (head_in t) (head_of t vector) heads
  unfolding headed
  headed_is h = rw (lt-ltb (t / 64) (length heads / 512) h)

pub length-named : (r : ℕ) (tail : List ℕ) → length (named r tail) ≡ length tail
unfolding named
length-named r tail = if_so (ltb (r / 8) (length tail))
  where
    if_so : (b : Bool) → length (cond b (bytes (length tail) (number tail ⊕ 2 ^ r)) tail) ≡ length tail
    if_so true = length-bytes (length tail) (number tail ⊕ 2 ^ r)
    if_so false = refl

pub length-head_of : (t : ℕ) (slot : List ℕ) → length (head_of t slot) ≡ 8
unfolding head_of
length-head_of t slot = length-little_bytes 8 (word_at (8 * (t / 64)) slot)

-- ---- in a part that was lent and is back

-- the slots, lent as the front
pub slot-part : (k t r : ℕ) (vector old new : List ℕ) → length vector ≡ vector_bytes → t < k / vector_bytes → k ≤ length old → new ≡ slotted t vector r (take k old)
    → new ++ drop k old ≡ lay (t * vector_bytes) (named r vector) old
unfolding vector_bytes
slot-part k t r vector old new wide h l e =
    let size : length (take k old) ≡ k = length-take-le k old l in
    let end : t * 80 + length (named r vector) ≤ k = omega (arith, length-named r vector, wide) in
    let is : new ≡ lay (t * 80) (named r vector) (take k old) = e ∙ slotted_is t vector r (take k old) wide (rw size h) in
    let long : length new ≡ k = ap length is ∙ length-lay (t * 80) (named r vector) (take k old) (omega (arith, end, size)) ∙ size in
    over-back k new old long ∙ sym (lay_zero new old) ∙ ap (λ (v : List ℕ). lay 0 v old) is ∙ lay-within 0 k (t * 80) (named r vector) old end (omega (arith, l))
    ∙ ap (λ (n : ℕ). lay n (named r vector) old) (zero-add (t * 80))

-- the heads
pub head-part : (a k t : ℕ) (vector old new : List ℕ) → t / 64 < k / 512 → a + k ≤ length old → new ≡ headed t vector (take k (drop a old))
    → put_mid a k old new ≡ lay (a + head_in t) (head_of t vector) old
head-part a k t vector old new h l e =
    let size : length (take k (drop a old)) ≡ k = length_part k a old l in
    let end : head_in t + length (head_of t vector) ≤ k = unfold head_in in omega (arith, length-head_of t vector) in
    let is : new ≡ lay (head_in t) (head_of t vector) (take k (drop a old)) = e ∙ headed_is t vector (take k (drop a old)) (rw size h) in
    let long : length new ≡ k = ap length is ∙ length-lay (head_in t) (head_of t vector) (take k (drop a old)) (omega (arith, end, size)) ∙ size in
    back a k new old long ∙ ap (λ (v : List ℕ). lay a v old) is ∙ lay-within a k (head_in t) (head_of t vector) old end l
