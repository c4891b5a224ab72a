-- `tally_word` meets its contract: each turn raises the uses of the kept place of the lowest set bit that is left.
-- Assumes nothing.
use Prim.Native.Nat.{◌+◌, ◌/◌, ◌<◌}
use native.Mathlib.Omega.{arith}
use lib.ListN.{length}
use Rattle.tally.proofs.Uses.{counting-start, counting-inside, counting_more, counting_end}
use Rattle.tally.proofs.tally_word.Goals as goal
use Rattle.tally.proofs.tally_word.Goals.{In-Some}

pub loop-bit-init : goal.loop-bit-init
loop-bit-init c = rw (c.into_iter-bit-iterator.ensures.into_iter_gives, c.set_bits-bit-items.ensures) (counting-start _ _ _)

-- the bit stands for a kept place
inside : (c : In-Some) → c.args.j + c.in-Some.bit < length c.args.uses.now / 2
inside c =
    let l = c.loop-bit in
    let taken = c.in-Some.ensures.steps in
    rw taken.lowest_is (counting-inside c.args.j c.args.names c.args.uses.now l.uses l.bit-iterator.rest l.invariant taken.some c.ranges.names.fits c.requires)

pub overflow_add-j : goal.overflow_add-j
overflow_add-j c = omega (arith, inside (goal.at.overflow_add-j c).In-Some)

pub raise-requires : goal.raise-requires
raise-requires c = omega (arith, inside (goal.at.raise-requires c).In-Some, c.loop-bit.invariant.long)

pub loop-bit-preserved : goal.loop-bit-preserved
loop-bit-preserved c =
    let l = c.loop-bit in
    let taken = c.in-Some.ensures.steps in
    rw taken.rest_is (counting_more c.args.j c.args.names c.args.uses.now l.uses l.bit-iterator.rest l.invariant taken.some c.ranges.names.fits
    c.raise.new.uses c.raise.auto.uses (rw taken.lowest_is at (inside (goal.at.loop-bit-preserved c).In-Some)) (rw taken.lowest_is at c.raise.ensures))

pub returns : goal.returns
returns c =
    let l = c.loop-bit in
    counting_end c.args.j c.args.names c.args.uses.now l.uses l.bit-iterator.rest l.invariant c.in-None.ensures.steps.0
