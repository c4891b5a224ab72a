-- `entering::store` meets its contract: the vector is laid in its slot, and its head behind them all.
-- Assumes nothing.
use mathlib.Core.Path.{◌≡◌, sym, ap, ap₂, ◌∙◌}
use Prim.Native.Nat.{ℕ, ◌+◌, ◌*◌, ◌-◌, ◌≤◌, ◌<◌}
use native.Mathlib.Omega.{arith}
use mathlib.Core.List.{List}
use lib.ListN.{length, take, drop}
use borrow.Rule.Slice.PartMut.{put_mid}
use Rattle.octets.specs.Octets.{lay}
use Rattle.words.specs.Words.{word_at}
use Rattle.littles.specs.Littles.{little_bytes}
use Rattle.octets.proofs.Lay.{length-lay}
use Rattle.octets.proofs.Parts.{back}
use Rattle.octets.proofs.Views.{part_room, length_part}
use Rattle.entering.specs.Enter.{slot_bytes, stored}
use Rattle.entering.proofs.Slots.{slot-bytes, part_copied}
use Rattle.entering.proofs.store.Goals as goal
use Rattle.entering.proofs.store.Goals.{After-copy}

room : (t : ℕ) (slots : List ℕ) → t < 64 → length slots ≡ slot_bytes → t * 80 + 80 ≤ length slots
room t slots h all = part_room 80 64 t slots (omega (arith, slot-bytes)) h

pub slice_bounds-copy-end : goal.slice_bounds-copy-end
slice_bounds-copy-end c = omega (arith, room c.args.t c.args.slots.now c.requires.slot c.requires.slots)

-- the slots once the vector is there
module _ (c : After-copy) where
  abbrev laid : List ℕ
  laid = lay (c.args.t * 80) c.args.vector.now c.args.slots.now

  is-laid : put_mid (c.args.t * 80) (c.args.t * 80 + 80 - c.args.t * 80) c.args.slots.now c.copy.new.into ≡ laid
  is-laid =
      let at : ℕ = c.args.t * 80 in
      let size : at + 80 - at ≡ 80 = omega arith in
      part_copied 80 at (at + 80 - at) c.args.slots.now c.args.vector.now c.copy.new.into size (room c.args.t c.args.slots.now c.requires.slot c.requires.slots) c.requires.wide c.copy.ensures

  long : length laid ≡ 5632
  long = length-lay (c.args.t * 80) c.args.vector.now c.args.slots.now (omega (arith, room c.args.t c.args.slots.now c.requires.slot c.requires.slots, c.requires)) ∙ c.requires.slots ∙ slot-bytes

pub slice_bounds-put_little-end : goal.slice_bounds-put_little-end
slice_bounds-put_little-end c =
    omega (arith, ap length (is-laid (goal.at.slice_bounds-put_little-end c).After-copy), long (goal.at.slice_bounds-put_little-end c).After-copy)

pub returns : goal.returns
unfolding stored
returns c =
    let k = (goal.at.returns c).After-copy in
    let h : ℕ = 5120 + 8 * (63 - c.args.t) in
    let head : List ℕ = c.put_little.new.into in
    let eight : h + 8 - h ≡ 8 = omega arith in
    let whole : length (take (h + 8 - h) (drop h (put_mid (c.args.t * 80) (c.args.t * 80 + 80 - c.args.t * 80) c.args.slots.now c.copy.new.into))) ≡ 8 = rw (is-laid k, eight) (length_part 8 h (laid k) (omega (arith, long k))) in
    let is : head ≡ little_bytes 8 (word_at 0 c.args.vector.now) = c.put_little.ensures ∙ ap₂ little_bytes whole c.word.ensures in
    let size : length head ≡ h + 8 - h = c.put_little.auto.into ∙ whole ∙ sym eight in
    rw (is-laid k) (back h (h + 8 - h) head (laid k) size ∙ ap (λ (new : List ℕ). lay h new (laid k)) is)
