-- `count_row` meets its contract: the uses are laid back where they stood, and no kept place at the arrival.
-- Assumes nothing.
use mathlib.Core.Path.{ap, ◌∙◌}
use mathlib.Core.List.{List}
use Prim.Native.Nat.{ℕ, ◌+◌, ◌-◌, ◌*◌}
use borrow.Rule.Slice.PartMut.{put_mid}
use Rattle.octets.specs.Octets.{bytes, lay}
use Rattle.doubles.proofs.Doubles.{pair-part}
use Rattle.state.specs.Layout.{uses_at, places_at}
use Rattle.counting.specs.Counting.{row_counted}
use Rattle.state.proofs.Sizes.{sizes}
use Rattle.counting.proofs.Back.{counted-laid}
use native.Mathlib.Omega.{arith}
use Rattle.counting.proofs.count_row.Goals as goal

pub overflow_mul-e : goal.overflow_mul-e
overflow_mul-e c = omega (arith, sizes, c.requires.rank)

pub overflow_add-e : goal.overflow_add-e
overflow_add-e c = omega (arith, sizes, c.requires.rank)

pub slice_bounds-tally-end : goal.slice_bounds-tally-end
slice_bounds-tally-end c = omega (arith, sizes, c.requires.rank, c.requires.whole)

pub slice_bounds-give_none-end : goal.slice_bounds-give_none-end
slice_bounds-give_none-end c = omega (arith, sizes, c.state-1.given, c.requires.whole)

pub returns : goal.returns
unfolding uses_at places_at row_counted
returns c =
    let t = c.tally in
    let r = c.args.rank in
    let m = c.args.arrival.0 in
    let after : List ℕ = put_mid 25600 (25600 + 2 * r - 25600) c.args.state.now t.new.uses in
    let laid = counted-laid c.args.tail.now r c.args.state.now t.new.uses c.requires.wide c.requires.rank c.requires.whole t.auto.uses t.ensures in
    pair-part 26240 1024 m 0 after c.give_none.new.places (omega (arith, c.requires.arrival)) (omega (arith, sizes, c.state-1.given, c.requires.whole)) c.give_none.ensures
    ∙ ap (lay (26240 + 2 * m) (bytes 2 0)) laid
