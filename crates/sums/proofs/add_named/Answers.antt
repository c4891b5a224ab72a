-- `sums::add_named` meets its contract: each turn adds the symbol of the lowest bit that is left, and what stands there is always
-- what stood there with the symbols of the bits taken away. Assumes nothing.
use Rattle.std.proofs.Common.{◌≡◌, ℕ, ◌+◌, ◌*◌, ◌≤◌, List, length, take, drop, ap, ◌∙◌, arith}
use native.Mathlib.Nat.{add-sub_cancel_left}
use Rattle.octets.specs.Octets.{add_front}
use Rattle.octets.proofs.Runs.{known_below}
use Rattle.rows.proofs.Bits.{adding_start, adding_end, adding_bit, adding_room, adding_less, length-added, added_zero, added-symbol}
use Rattle.sums.proofs.add_named.Goals as goal

pub loop-bit-init : goal.loop-bit-init
loop-bit-init c = rw (c.into_iter-bit-iterator.ensures.into_iter_gives, c.set_bits-bit-items.ensures) (adding_start (added_zero c.args.into.now) c.ranges.names.fits c.requires.inside)

pub overflow_mul-start : goal.overflow_mul-start
overflow_mul-start c = omega (arith, adding_room c.loop-bit.invariant c.in-Some.ensures.steps)

pub overflow_add-start : goal.overflow_add-start
overflow_add-start c = omega (arith, adding_room c.loop-bit.invariant c.in-Some.ensures.steps)

pub slice_bounds-add-end : goal.slice_bounds-add-end
slice_bounds-add-end c = adding_room c.loop-bit.invariant c.in-Some.ensures.steps

pub loop-bit-preserved : goal.loop-bit-preserved
loop-bit-preserved c =
    let A = c.args in
    let l : ℕ = length A.into.now in
    let a = c.loop-bit.invariant in
    let k = c.in-Some.bit in
    let taken = c.in-Some.ensures.steps in
    let symbol : List ℕ = take l (drop (k * l) A.page.now) in
    rw (c.add.ensures, add-sub_cancel_left (k * l) l)
    (adding_less a taken _ (ap (λ (v : List ℕ). add_front v symbol) a.shown ∙ added-symbol A.into.now A.page.now (known_below A.page.now c.type_inv.page) k (adding_bit a taken) a.sum))

pub returns : goal.returns
returns c = adding_end c.loop-bit.invariant c.in-None.ensures.steps.0
