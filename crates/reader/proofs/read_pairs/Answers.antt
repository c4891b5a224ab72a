-- `reader::read_pairs` meets its contract, that of `read` for bytes.
-- Assumes nothing.
use Rattle.reader.specs.Reader.{buffers, returned}
use Rattle.reader.proofs.Ends.{in_pairs_is}
use Rattle.reader.proofs.read_pairs.Goals as goal

pub returns : goal.returns
returns c =
    let R = c.read in
    in_pairs_is c.args.n c.args.l c.args.list.now (buffers c.args.page.now c.args.uses.now c.args.roles.now c.args.scratch.now)
    (returned R.result R.new.page R.new.uses R.new.roles R.new.scratch) R.ensures
