-- `agree::is_short_sum` meets its contract: the highest bytes of the word are always the payload with the symbols of the bits taken away.
-- Assumes nothing.
use Rattle.std.proofs.Common.{ℕ, eqb, length, ap, ◌∙◌, arith}
use Rattle.space.specs.Space.{◌⊕◌}
use Rattle.space.proofs.Xor.{eqb_⊕_zero}
use Rattle.octets.specs.Octets.{number}
use Rattle.octets.proofs.Runs.{known_below}
use Rattle.rows.proofs.Bits.{adding_start, adding_end, adding_bit, adding_room, adding_less}
use Rattle.agree.proofs.Shorts.{front, front-payload, front-symbol}
use Rattle.agree.proofs.is_short_sum.Goals as goal

pub loop-bit-init : goal.loop-bit-init
loop-bit-init c =
    let payload = c.args.payload.now in
    rw (c.into_iter-bit-iterator.ensures.into_iter_gives, c.set_bits-bit-items.ensures)
    (adding_start (ap (front (length payload)) c.word-left.ensures ∙ front-payload payload (known_below payload c.type_inv.payload) c.requires.few) c.ranges.names.fits c.requires.inside)

pub overflow_mul-bit : goal.overflow_mul-bit
overflow_mul-bit c = omega (arith, adding_room c.loop-bit.invariant c.in-Some.ensures.steps)

pub loop-bit-preserved : goal.loop-bit-preserved
unfolding ◌⊕◌
loop-bit-preserved c =
    let page = c.args.page.now in
    let payload = c.args.payload.now in
    let a = c.loop-bit.invariant in
    let taken = c.in-Some.ensures.steps in
    rw c.word-left-in-loop-bit.ensures
    (adding_less a taken _
    (front-symbol (length payload) page (known_below page c.type_inv.page) c.requires.few c.in-Some.bit (adding_bit a taken) c.loop-bit.left (number payload) a.sum a.shown))

pub returns : goal.returns
returns c = ap (λ (x : ℕ). eqb x 0) (adding_end c.loop-bit.invariant c.in-None.ensures.steps.0) ∙ eqb_⊕_zero _ _
