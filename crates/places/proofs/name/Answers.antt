-- `places::name` meets its contract: the byte of the digit changes, and no other.
-- Assumes nothing.
use borrow.Author.Tests.{lt-ltb}
use Rattle.octets.proofs.Runs.{known_below}
use Rattle.places.specs.Places.{named}
use Rattle.places.proofs.Turned.{digit_turned}
use native.Mathlib.Omega.{arith}
use Rattle.places.proofs.name.Goals as goal

pub returns : goal.returns
unfolding named
returns c =
    let A = c.args in
    rw (lt-ltb _ _ c.if-n-j.false)
    (digit_turned A.tail.now A.place.0 (omega (arith, c.if-n-j.false)) (known_below A.tail.now c.slice_known-1.given))
