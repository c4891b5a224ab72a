-- `littles::little` meets its contract: the eight bytes are there, or the answer is 0.
-- Assumes nothing.
use Rattle.std.proofs.Common.{◌+◌, ◌≤◌, length, take, drop, sym, ◌∙◌, arith}
use Rattle.std.proofs.lemmas.List.{length-drop, length-take-le}
use borrow.Author.Rules.{part_to_end}
use borrow.Author.Tests.{lt-leb}
use Rattle.littles.specs.Littles.{little_at}
use Rattle.littles.proofs.Littles.{eight_little, little_inside}
use Rattle.littles.proofs.little.Goals as goal

pub returns-then-from-i : goal.returns-then-from-i
unfolding little_at
returns-then-from-i c = rw (lt-leb (c.args.i + 8) (length c.args.from.now) (omega arith))

pub returns-in-Some : goal.returns-in-Some
returns-in-Some c =
    let bs = c.args.from.now in
    let i = c.args.i in
    let first = rw (part_to_end bs i) at c.in-Some.ensures.cases in
    let room : i + 8 ≤ length bs = omega (arith, first.enough, length-drop i bs) in
    rw (c.from_le_bytes.ensures, first.same) (eight_little (take 8 (drop i bs)) (length-take-le 8 (drop i bs) first.enough) ∙ sym (little_inside i bs room))

pub returns-in-None : goal.returns-in-None
unfolding little_at
returns-in-None c =
    let bs = c.args.from.now in
    let few = rw (part_to_end bs c.args.i, length-drop c.args.i bs) at c.in-None.ensures.cases in
    rw (lt-leb (c.args.i + 8) (length bs) (omega arith))
