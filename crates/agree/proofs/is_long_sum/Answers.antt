-- `agree::is_long_sum` meets its contract: the words are always those of the payload with the symbols of the bits taken away.
-- Assumes nothing.
use Rattle.std.proofs.Common.{ℕ, ◌*◌, length, take, drop, ap, ◌∙◌, arith}
use native.Mathlib.Nat.{add-sub_cancel_left}
use Rattle.octets.proofs.Runs.{known_below}
use Rattle.octets.proofs.Views.{length_part}
use Rattle.agree.specs.declared.Quad.{Quad}
use Rattle.agree.specs.Quads.{quad_of, quad_plus, quad_none}
use Rattle.rows.proofs.Bits.{adding_start, adding_end, adding_bit, adding_room, adding_less, added_zero}
use Rattle.agree.proofs.Quads.{quad_symbol, quad_sum}
use Rattle.agree.proofs.is_long_sum.Goals as goal

pub loop-bit-init : goal.loop-bit-init
loop-bit-init c =
    rw (c.into_iter-bit-iterator.ensures.into_iter_gives, c.set_bits-bit-items.ensures)
    (adding_start (c.of-left.ensures ∙ ap quad_of (added_zero c.args.payload.now)) c.ranges.names.fits c.requires.inside)

pub overflow_mul-start : goal.overflow_mul-start
overflow_mul-start c = omega (arith, adding_room c.loop-bit.invariant c.in-Some.ensures.steps)

pub overflow_add-start : goal.overflow_add-start
overflow_add-start c = omega (arith, adding_room c.loop-bit.invariant c.in-Some.ensures.steps)

pub slice_bounds-of-end : goal.slice_bounds-of-end
slice_bounds-of-end c = adding_room c.loop-bit.invariant c.in-Some.ensures.steps

pub of-requires : goal.of-requires
of-requires c =
    let l : ℕ = length c.args.payload.now in
    let start : ℕ = c.in-Some.bit * l in
    rw (add-sub_cancel_left start l, length_part l start c.args.page.now (adding_room c.loop-bit.invariant c.in-Some.ensures.steps)) c.requires.least

pub loop-bit-preserved : goal.loop-bit-preserved
loop-bit-preserved c =
    let page = c.args.page.now in
    let payload = c.args.payload.now in
    let l : ℕ = length payload in
    let a = c.loop-bit.invariant in
    let k = c.in-Some.bit in
    let taken = c.in-Some.ensures.steps in
    rw (c.bitxor-left.ensures, c.of.ensures, add-sub_cancel_left (k * l) l)
    (adding_less a taken _ (ap (λ (q : Quad). quad_plus q (quad_of (take l (drop (k * l) page)))) a.shown
    ∙ quad_symbol payload page (known_below payload c.type_inv.payload) (known_below page c.type_inv.page) c.requires.least k (adding_bit a taken) a.sum))

pub returns : goal.returns
unfolding quad_none
returns c =
    let page = c.args.page.now in
    let payload = c.args.payload.now in
    c.eq.ensures ∙ ap quad_none (adding_end c.loop-bit.invariant c.in-None.ensures.steps.0)
    ∙ quad_sum payload page c.args.names (known_below payload c.type_inv.payload) (known_below page c.type_inv.page) c.requires.least c.requires.most
