use mathlib.Core.Path.{◌≡◌}
use mathlib.Core.List.{List}
use Prim.Native.Nat.{ℕ, ◌*◌, ◌/◌, ◌^◌}
use lib.ListN.{length}
use Rattle.octets.proofs.Fill.{Filling}
use Rattle.littles.specs.Littles.{little_bytes}
use Rattle.littles.proofs.put_little.Given as goal

-- At index i the bytes before i are written.
pub record Written (old new : List ℕ) (x rest i : ℕ) : Type 0 where
  pub fills : Filling (little_bytes (length old) x) old new (length old) i
  pub left : rest ≡ x / 2 ^ (8 * i)

abbrev pub invariant-loop-byte : goal.invariant-loop-byte
invariant-loop-byte l = Written l.initial.into l.into l.x l.rest l.byte-index
