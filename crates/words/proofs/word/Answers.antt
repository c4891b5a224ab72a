-- `words::word` meets its contract: the eight bytes lie inside, or the last ones are shifted up, or there are none.
-- Assumes nothing.
use Rattle.std.proofs.Common.{◌+◌, ◌-◌, ◌≤◌, length, take, drop, sym, ◌∙◌, arith}
use Rattle.std.proofs.lemmas.List.{length-drop, length-take-le}
use borrow.Author.Rules.{part_to_end}
use Rattle.octets.proofs.Runs.{known_below}
use Rattle.words.proofs.Eights.{eight_number}
use Rattle.words.proofs.Words.{word_past, word_inside, word_end}
use Rattle.words.proofs.word.Goals as goal

pub returns-then-from-i : goal.returns-then-from-i
returns-then-from-i c = sym (word_past c.args.i c.args.from.now c.if-from-i.true)

pub returns-in-Some : goal.returns-in-Some
returns-in-Some c =
    let bs = c.args.from.now in
    let i = c.args.i in
    let first = rw (part_to_end bs i) at c.in-Some.ensures.cases in
    let room : i + 8 ≤ length bs = omega (arith, first.enough, length-drop i bs) in
    rw (c.from_be_bytes.ensures, first.same) (eight_number (take 8 (drop i bs)) (length-take-le 8 (drop i bs) first.enough) ∙ word_inside i bs room)

pub returns-in-None : goal.returns-in-None
returns-in-None c =
    let bs = c.args.from.now in
    let i = c.args.i in
    let few = rw (part_to_end bs i, length-drop i bs) at c.in-None.ensures.cases in
    rw (c.get.ensures, part_to_end bs i, length-drop i bs) (word_end i bs (length bs - i) (known_below bs c.type_inv.from) (omega arith) few)
