-- `octets::clear` meets its contract: a loop from the front that fills with zeros, as many as there are bytes.
-- Assumes nothing.
use mathlib.Core.Path.{◌≡◌, sym, ◌∙◌}
use mathlib.Core.List.{List}
use Prim.Native.Nat.{ℕ}
use native.Mathlib.Omega.{arith}
use lib.ListN.{length, length-replicate, get_or-replicate}
use Rattle.octets.proofs.Fill.{filling_more, filling_end}
use Rattle.octets.proofs.Lay.{over-all}
use Rattle.octets.proofs.clear.Invariants.{zeros}
use Rattle.octets.proofs.clear.Goals as goal

as_long : (v : List ℕ) → length (zeros v) ≡ length v
as_long v = length-replicate (length v) 0

pub loop-byte-preserved : goal.loop-byte-preserved
loop-byte-preserved c =
    let v = c.args.v.now in
    let i = c.loop-byte.byte-index in
    filling_more (zeros v) v (length v) (as_long v) (omega arith) _ i c.loop-byte.invariant (omega (arith, c.loop-byte-test.true)) 0
    (sym (get_or-replicate (length v) i 0 0 (omega (arith, c.loop-byte-test.true))))

pub returns : goal.returns
returns c =
    let v = c.args.v.now in
    filling_end (zeros v) v (length v) (as_long v) (omega arith) _ _ c.loop-byte.invariant (omega (arith, c.loop-byte-test.false)) ∙ over-all (zeros v) v (as_long v)
