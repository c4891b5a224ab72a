-- `put_arrival` meets its contract: each test in its order, and the arrival is written in the order, which is then back.
-- Assumes nothing.
use native.Mathlib.Omega.{arith}
use mathlib.Core.Path.{sym, ◌∙◌}
use Rattle.doubles.proofs.Doubles.{pair-part}
use Rattle.state.specs.Layout.{order_at, state_bytes}
use Rattle.noting.proofs.Fits.{ordered_is}
use Rattle.noting.proofs.put_arrival.Goals as goal

pub returns-then-state-ge-BYTES : goal.returns-then-state-ge-BYTES
unfolding order_at state_bytes
returns-then-state-ge-BYTES c =
    let A = c.args in
    pair-part 29824 1024 A.i A.arrival.0 A.state.now c.put_pair.new.into (omega (arith, c.if-i-lt-MOST_ROWS.true)) (omega (arith, c.if-state-ge-BYTES.true)) c.put_pair.ensures
    ∙ sym (ordered_is A.i A.arrival.0 A.state.now c.if-i-lt-MOST_ROWS.true c.if-arrival-lt-MOST_ROWS.true c.if-state-ge-BYTES.true)
