-- `page_reader::Scan::report` is safe: the rows of a readable sheet fit into the list, and its page into the room for it.
-- Assumes nothing.
use Rattle.std.proofs.Common.{◌*◌, ◌≤◌, arith}
use Rattle.lines.proofs.Readable.{rows_fit, page-fits}
use Rattle.page_reader.proofs.Readable.{readable}
use Rattle.page_reader.proofs.Scan.report.Goals as goal
use Rattle.page_reader.proofs.Scan.report.Goals.{After-stride}

fit : (g : _) (c : After-stride g) → c.args.self.now.sheet.rows * c.stride.result ≤ 22528
fit g c = let self = c.args.self.now in rw c.stride.ensures (rows_fit self.sheet (readable self.sheet self.few self.shaped) _ c.in-Some.is)

pub overflow_mul-end : goal.overflow_mul-end
overflow_mul-end g c = omega (arith, fit g c)

pub shared_ref_as_front-read_rows : goal.shared_ref_as_front-read_rows
shared_ref_as_front-read_rows g c = fit g (goal.at.shared_ref_as_front-read_rows g c).After-stride

pub read_rows-requires : goal.read_rows-requires
read_rows-requires g c = let self = c.args.self.now in page-fits self.sheet (readable self.sheet self.few self.shaped) _ c.in-Some.is
