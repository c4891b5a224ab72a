-- `clear` meets its contract: what fits is made zero up to the order, and nothing is written else.
-- Assumes nothing.
use Rattle.std.proofs.Common.{rules}
use native.Mathlib.Omega.{arith}
use mathlib.Core.Path.{sym, ◌∙◌}
use lib.Seq.{length-take-le}
use Rattle.state.specs.Layout.{state_bytes}
use Rattle.state.proofs.Sizes.{sizes}
use Rattle.state.proofs.Fits.{emptied_is}
use Rattle.state.proofs.Parts.{cleared-laid}
use Rattle.state.proofs.clear.Goals as goal

pub slice_bounds-fill-end-then-state-ge-BYTES : goal.slice_bounds-fill-end-then-state-ge-BYTES
slice_bounds-fill-end-then-state-ge-BYTES c = sym (length-take-le _ c.args.state.now (omega (arith, c.if-state-ge-BYTES.true)))

pub returns-then-state-ge-BYTES : goal.returns-then-state-ge-BYTES
unfolding state_bytes
returns-then-state-ge-BYTES c =
    let state = c.args.state.now in
    cleared-laid _ state c.fill.new.self (sym sizes.6) c.if-state-ge-BYTES.true (search rules) ∙ sym (emptied_is state c.if-state-ge-BYTES.true)
