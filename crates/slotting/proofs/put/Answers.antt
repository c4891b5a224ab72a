-- `put` meets its contract: the vector is laid at its slot, and there its digit is turned.
-- Assumes nothing.
use mathlib.Core.Path.{◌≡◌, sym, ap, ◌∙◌}
use mathlib.Core.List.{List}
use Prim.Native.Nat.{ℕ, ◌+◌, ◌-◌, ◌*◌, ◌≤◌}
use native.Mathlib.Omega.{arith}
use lib.ListN.{length, take, drop}
use lib.Seq.{take_all, length-take-le}
use borrow.Rule.Slice.PartMut.{put_mid}
use Rattle.octets.specs.Octets.{lay}
use Rattle.octets.proofs.Lay.{copied, part-lay, lay-lay}
use Rattle.octets.proofs.Parts.{back}
use Rattle.octets.proofs.Views.{length_part}
use Rattle.places.specs.Places.{named}
use Rattle.slotting.specs.Slotting.{vector_bytes}
use Rattle.slotting.proofs.Fits.{slotted_is, length-named}
use Rattle.slotting.proofs.put.Goals as goal
use Rattle.slotting.proofs.put.Goals.{After-copy}

pub slice_bounds-copy-end-2 : goal.slice_bounds-copy-end-2
slice_bounds-copy-end-2 c = sym (length-take-le _ c.args.vector.now (omega (arith, c.if-vector-ne-VECTOR.false)))

-- the vector is copied to its slot
module _ (c : After-copy) where
  abbrev t : ℕ
  t = c.args.t

  abbrev slots : List ℕ
  slots = c.args.slots.now

  abbrev vector : List ℕ
  vector = c.args.vector.now

  size : t * 80 + 80 - t * 80 ≡ 80
  size = omega arith

  wide : length vector ≡ 80
  wide = c.if-vector-ne-VECTOR.false

  fits : t * 80 + 80 ≤ length slots
  fits = omega (arith, c.if-slots-t.false)

  copied-there : put_mid (t * 80) (t * 80 + 80 - t * 80) slots c.copy.new.into ≡ lay (t * 80) vector slots
  copied-there =
      let part : length (take (t * 80 + 80 - t * 80) (drop (t * 80) slots)) ≡ 80 = rw size (length_part 80 (t * 80) slots fits) in
      let whole : take 80 vector ≡ vector = take_all 80 vector (omega (arith, wide)) in
      let same : c.copy.new.into ≡ vector = c.copy.ensures ∙ rw whole (copied 80 vector (take (t * 80 + 80 - t * 80) (drop (t * 80) slots)) wide part) in
      ap (put_mid (t * 80) (t * 80 + 80 - t * 80) slots) same ∙ back (t * 80) (t * 80 + 80 - t * 80) vector slots (wide ∙ sym size)

pub returns : goal.returns
unfolding vector_bytes
returns c =
    let k = (goal.at.returns c).After-copy in
    let n = c.name in
    let p : ℕ = c.args.place.0 in
    let slot : List ℕ = put_mid (t k * 80) (t k * 80 + 80 - t k * 80) (slots k) c.copy.new.into in
    let part : take (t k * 80 + 80 - t k * 80) (drop (t k * 80) slot) ≡ vector k =
    rw (copied-there k, size k) (part-lay (t k * 80) 80 (vector k) (slots k) (wide k) (omega (arith, fits k))) in
    let is : n.new.tail ≡ named p (vector k) = n.ensures ∙ ap (named p) part in
    let long : length (named p (vector k)) ≡ length (vector k) = length-named p (vector k) in
    back (t k * 80) (t k * 80 + 80 - t k * 80) n.new.tail slot (ap length is ∙ long ∙ wide k ∙ sym (size k))
    ∙ ap (λ (v : List ℕ). lay (t k * 80) v slot) is ∙ ap (lay (t k * 80) (named p (vector k))) (copied-there k)
    ∙ lay-lay (t k * 80) (named p (vector k)) (vector k) (slots k) long (omega (arith, fits k))
    ∙ sym (slotted_is (t k) (vector k) p (slots k) (wide k) c.if-slots-t.false)
