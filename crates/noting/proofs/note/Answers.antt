-- `note` meets its contract: the filter is lent and comes back with the seed noted, or the state is too short.
-- Assumes nothing.
use native.Mathlib.Omega.{arith}
use mathlib.Core.Path.{sym, ◌∙◌}
use Rattle.filter.specs.Filter.{filter_bytes}
use Rattle.state.specs.Layout.{filter_at, state_bytes, filter_in}
use Rattle.noting.proofs.Fits.{noted_is}
use Rattle.noting.proofs.Back.{seed-told, noted-laid}
use Rattle.noting.proofs.note.Goals as goal

pub returns : goal.returns
unfolding filter_bytes filter_at state_bytes filter_in
returns c =
    let whole = c.if-state-lt-BYTES.false in
    let A = c.args in
    let N = c.note in
    let is = noted_is A.seed A.state.now whole in
    record { answer = seed-told 30848 1024 A.state.now N.new.filter (omega (arith, whole)) A.seed (omega arith) N.result N.ensures.answer ∙ sym is.0; state = noted-laid 30848 1024 A.state.now N.new.filter (omega (arith, whole)) A.seed (omega arith) N.ensures.filter ∙ sym is.1 }
