-- `words::four` meets its contract: four bytes, or there are fewer.
-- Assumes nothing.
use Rattle.std.proofs.Common.{length}
use borrow.Author.Tests.{le-leb, lt-leb}
use Rattle.words.specs.Words.{four_of}
use Rattle.words.proofs.Eights.{four_number}
use Rattle.words.proofs.four.Goals as goal

pub returns-in-Some : goal.returns-in-Some
unfolding four_of
returns-in-Some c =
    let first = c.in-Some.ensures.cases in
    rw (c.from_be_bytes.ensures, first.same, le-leb 4 (length c.args.from.now) first.enough) (four_number c.args.from.now first.enough)

pub returns-in-None : goal.returns-in-None
unfolding four_of
returns-in-None c = rw (lt-leb 4 (length c.args.from.now) c.in-None.ensures.cases)
