-- `forget` meets its contract: what fits is made zero from the filter on to the end of the state, and nothing is written else.
-- Assumes nothing.
use Rattle.std.proofs.Common.{rules}
use native.Mathlib.Omega.{arith}
use mathlib.Core.Path.{sym, ◌∙◌}
use Rattle.filter.specs.Filter.{filter_bytes}
use Rattle.state.specs.Layout.{filter_at, state_bytes}
use Rattle.noting.proofs.Fits.{forgotten_is}
use Rattle.noting.proofs.Back.{forgotten-laid}
use Rattle.noting.proofs.forget.Goals as goal

pub returns-then-state-ge-BYTES : goal.returns-then-state-ge-BYTES
unfolding filter_bytes filter_at state_bytes
returns-then-state-ge-BYTES c =
    let whole = c.if-state-ge-BYTES.true in
    let state = c.args.state.now in
    forgotten-laid 30848 1024 state c.fill.new.self (omega (arith, whole)) (search rules) ∙ sym (forgotten_is state whole)
