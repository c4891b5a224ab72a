-- `put_vector` meets its contract: the part that is lent has all slots, and the tail a digit for each kept place.
-- Assumes nothing.
use mathlib.Core.Path.{◌≡◌, sym, ap, ◌∙◌}
use mathlib.Core.List.{List}
use Prim.Native.Nat.{◌*◌, ◌/◌, ◌^◌, ◌<◌}
use native.Mathlib.Omega.{arith}
use lib.Seq.{length-take-le}
use borrow.Author.Tests.{lt-ltb}
use Rattle.space.specs.Space.{◌⊕◌}
use Rattle.octets.specs.Octets.{number, bytes, lay}
use Rattle.places.specs.Places.{named}
use Rattle.slotting.proofs.Fits.{slot-part}
use Rattle.state.specs.Layout.{vector_bytes}
use Rattle.state.proofs.Sizes.{sizes}
use Rattle.keeping.proofs.put_vector.Goals as goal

pub slice_bounds-put-end : goal.slice_bounds-put-end
slice_bounds-put-end c = omega (arith, sizes, c.requires.whole)

pub slice_bounds-put-end-2 : goal.slice_bounds-put-end-2
slice_bounds-put-end-2 c = sym (length-take-le _ c.args.state.now (omega (arith, sizes, c.requires.whole)))

pub returns : goal.returns
unfolding named
returns c =
    let t = c.args.t in
    let r = c.args.place.0 in
    let vector : List _ = c.args.vector.now in
    let slot : t < 25600 / vector_bytes = unfold vector_bytes in omega (arith, sizes, c.requires.slot) in
    let inside : r / 8 < vector_bytes = omega (arith, sizes, c.requires.place) in
    let digit : named r vector ≡ bytes vector_bytes (number vector ⊕ 2 ^ r) = rw (c.requires.wide, lt-ltb (r / 8) vector_bytes inside) in
    slot-part 25600 t r vector c.args.state.now c.put.new.slots c.requires.wide slot (omega (arith, sizes, c.requires.whole)) c.put.ensures
    ∙ ap (λ (v : List _). lay (t * vector_bytes) v c.args.state.now) digit
