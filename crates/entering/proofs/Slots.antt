-- What `slots::reduce` answers and leaves for a vector of 80 bytes, and a part written as a whole.
-- Assumes nothing.
use mathlib.Core.Path.{◌≡◌, refl, sym, ◌∙◌}
use Prim.Native.Nat.{ℕ, ◌+◌, ◌≤◌}
use native.Mathlib.Omega.{arith}
use mathlib.Core.Bool.{true}
use mathlib.Core.List.{List, ◌++◌}
use lib.ListN.{length, take, drop}
use Rattle.octets.specs.Octets.{bytes, over, lay}
use Rattle.octets.proofs.Lay.{copied, lay-back}
use Rattle.octets.proofs.Views.{length_part}
use Rattle.slots.specs.Reducing.{reducible, slots_of, pass_of, stop_of, reduce_answer, reduce_work}
use Rattle.slots.proofs.Fits.{fits_when}
use Rattle.entering.specs.Enter.{slot_bytes, whole_pass}

pub slot-bytes : slot_bytes ≡ 5632
unfolding slot_bytes
slot-bytes = refl

-- ---- the pass of a vector of 80 bytes

module _ (slots work : List ℕ) (long : length work ≡ 80) (all : length slots ≡ slot_bytes) where
  fit : reducible 8 80 (length slots) ≡ true
  fit = fits_when 8 80 (length slots) (record { inside = omega arith; small = omega arith; big = omega (arith, slot-bytes) })

  pub whole-answer : reduce_answer 8 slots work ≡ stop_of 64 (whole_pass slots work)
  unfolding reduce_answer pass_of slots_of
  whole-answer = rw long (rw fit)

  pub whole-left : reduce_work 8 slots work ≡ bytes 80 (whole_pass slots work).vector
  unfolding reduce_work pass_of slots_of
  whole-left = rw long (rw fit)

-- ---- parts

-- a part of w bytes, copied over from a buffer as long
pub part_copied : (w at k : ℕ) (bs from into : List ℕ) → k ≡ w → at + w ≤ length bs → length from ≡ w
    → into ≡ over (take (length (take k (drop at bs))) from) (take k (drop at bs)) → take at bs ++ (into ++ drop k (drop at bs)) ≡ lay at from bs
part_copied w at k bs from into size room same e =
    let whole : into ≡ from = e ∙ copied w from (take k (drop at bs)) same (rw size (length_part w at bs room)) in
    rw whole (lay-back at k from bs (same ∙ sym size))
