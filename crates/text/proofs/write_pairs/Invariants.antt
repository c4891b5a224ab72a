use Prim.Native.Nat.{◌/◌}
use lib.ListN.{length}
use Rattle.octets.proofs.Fill.{Filling}
use Rattle.text.specs.Hex.{pairs}
use Rattle.text.proofs.write_pairs.Given as goal

abbrev pub invariant-loop-i : goal.invariant-loop-i
invariant-loop-i l = Filling (pairs l.line) l.initial.frame l.frame (length l.line / 2) l.i
