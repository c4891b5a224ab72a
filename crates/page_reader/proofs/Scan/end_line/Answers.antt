-- `page_reader::Scan::end_line` meets its contract: every line leaves a readable sheet.
-- Assumes nothing.
use Rattle.lines.specs.Readable.{Readable}
use Rattle.lines.proofs.Readable.{take-readable}
use Rattle.page_reader.proofs.Readable.{kept_shape, readable}
use Rattle.page_reader.proofs.Scan.end_line.Goals as goal

pub invariant_of-self : goal.invariant_of-self
invariant_of-self g c =
    let self = c.args.self.now in
    let next : Readable c.take-taken.result.sheet = rw c.take-taken.ensures.taken (take-readable _ self.sheet self.list (readable self.sheet self.few self.shaped)) in
    record { few = next.few; shaped = kept_shape _ next.shaped }
