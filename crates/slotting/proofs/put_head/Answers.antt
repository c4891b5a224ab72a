-- `put_head` meets its contract: the part that is lent is the head's, and comes back with the word's bytes.
-- Assumes nothing.
use mathlib.Core.Path.{◌≡◌, sym, ap, ap₂, ◌∙◌}
use mathlib.Core.List.{List}
use Prim.Native.Nat.{ℕ, ◌+◌, ◌-◌, ◌*◌, ◌/◌, ◌%◌}
use native.Mathlib.Omega.{arith}
use lib.ListN.{length, take, drop}
use Rattle.octets.specs.Octets.{lay}
use Rattle.octets.proofs.Parts.{back}
use Rattle.octets.proofs.Views.{length_part}
use Rattle.littles.specs.Littles.{little_bytes}
use Rattle.slotting.specs.Slotting.{head_in, head_of}
use Rattle.slotting.proofs.Fits.{headed_is, length-head_of}
use Rattle.slotting.proofs.put_head.Goals as goal

pub returns : goal.returns
unfolding head_in head_of
returns c =
    let A = c.args in
    let heads : List ℕ = A.heads.now in
    let h : ℕ = 512 * (A.t / 64) + 8 * (63 - A.t % 64) in
    let eight : h + 8 - h ≡ 8 = omega arith in
    let size : length (take (h + 8 - h) (drop h heads)) ≡ 8 = rw eight (length_part 8 h heads (omega (arith, c.if-heads-t.false))) in
    let word : c.put_little.new.into ≡ head_of A.t A.vector.now = c.put_little.ensures ∙ ap₂ little_bytes size c.word.ensures in
    rw eight (back h 8 c.put_little.new.into heads (ap length word ∙ length-head_of A.t A.vector.now) ∙ ap (λ (v : List ℕ). lay h v heads) word)
    ∙ sym (headed_is A.t A.vector.now heads c.if-heads-t.false)
