use mathlib.Core.List.{List}
use Prim.Native.Nat.{ℕ}
use lib.ListN.{length, replicate}
use Rattle.octets.proofs.Fill.{Filling}
use Rattle.octets.proofs.clear.Given as goal

abbrev pub zeros : List ℕ → List ℕ
zeros v = replicate (length v) 0

abbrev pub invariant-loop-byte : goal.invariant-loop-byte
invariant-loop-byte l = Filling (zeros l.initial.v) l.initial.v l.v (length l.initial.v) l.byte-index
