use Prim.Native.Nat.{◌*◌}
use lib.ListN.{length}
use Rattle.octets.proofs.Fill.{Filling}
use Rattle.spelling.specs.Spelling.{spelling}
use Rattle.spelling.proofs.write_digits.Given as goal

abbrev pub invariant-loop-i : goal.invariant-loop-i
invariant-loop-i l = Filling (spelling l.bytes) l.initial.text l.text (2 * length l.bytes) (2 * l.i)
