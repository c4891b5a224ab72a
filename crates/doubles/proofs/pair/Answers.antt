-- `doubles::pair` meets its contract: the two bytes at a place are its number, and there are as many places as pairs.
-- Assumes nothing.
use Rattle.std.proofs.Common.{sym, ◌∙◌}
use Rattle.doubles.proofs.Doubles.{pair_chunk, pair_past}
use Rattle.doubles.proofs.pair.Goals as goal

pub returns-in-Some : goal.returns-in-Some
returns-in-Some c =
    let e = c.in-Some.ensures.lookup in
    let chunks = c.as_chunks.ensures in
    c.from_be_bytes.ensures ∙ pair_chunk c.args.from.now c.args.i c.in-Some.pair.now (rw chunks.front_len at e.3.0) (rw chunks.front at e.1)

pub returns-in-None : goal.returns-in-None
returns-in-None c = sym (pair_past c.args.from.now c.args.i (rw c.as_chunks.ensures.front_len at c.in-None.ensures.lookup.3))
