-- `reader::read_list` meets its contract, that of `read` for 16-bit numbers.
-- Assumes nothing.
use Rattle.reader.specs.Reader.{returned}
use Rattle.reader.proofs.Ends.{in_numbers_is}
use Rattle.reader.proofs.read_list.Goals as goal

pub returns : goal.returns
returns c =
    let R = c.read in
    in_numbers_is c.args.n c.args.l c.args.list.now c.args.page.now c.args.uses.now c.args.roles.now c.args.scratch.now
    (returned R.result R.new.page R.new.uses R.new.roles R.new.scratch) R.ensures
