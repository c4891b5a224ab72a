-- `reader::read_rows` meets its contract: a list that passes is eliminated in list order, and the tail ends as the reading does.
-- Assumes nothing.
use mathlib.Core.Path.{sym, ◌∙◌}
use Rattle.octets.proofs.Runs.{known_below}
use Rattle.reader.proofs.Rows.{misfit_never, rows-read}
use Rattle.reader.proofs.read_rows.Goals as goal

pub returns-in-Some : goal.returns-in-Some
returns-in-Some c =
    let O = c.in_list_order-taken in
    let E = c.eliminate in
    let F = c.finish in
    let bytes = known_below c.args.list.now c.type_inv.list in
    let low = known_below E.new.state c.slice_known-5-1.given in
    rows-read c.args.n c.args.l c.args.list.now c.args.page.now c.args.roles.now c.args.state.now c.requires bytes
    O.result O.ensures.answer O.new.state O.ensures.state c.in-Some.rank (sym c.in-Some.is ∙ E.ensures.answer) E.new.state E.ensures.state low
    F.result F.new.state F.new.page F.new.roles F.ensures.end F.ensures.roles

pub returns-in-None : goal.returns-in-None
returns-in-None c =
    let O = c.in_list_order-taken in
    let bytes = known_below c.args.list.now c.type_inv.list in
    misfit_never c.args.n c.args.l c.args.list.now c.args.page.now c.args.roles.now c.args.state.now c.requires bytes
    O.result O.ensures.answer O.new.state O.ensures.state (sym c.in-None.is ∙ c.eliminate.ensures.answer)
