use mathlib.Core.Path.{◌≡◌}
use mathlib.Core.List.{List}
use Prim.Native.Nat.{ℕ, ◌-◌, ◌*◌, ◌/◌, ◌^◌, ◌≤◌}
use lib.ListN.{length}
use Rattle.octets.specs.Octets.{bytes}
use Rattle.octets.proofs.Fill.{filled}
use Rattle.numerals.proofs.put.Given as goal

-- At index i the bytes from i on are written.
pub record Written (old new : List ℕ) (x rest i : ℕ) : Type 0 where
  pub within : i ≤ length old
  pub long : length new ≡ length old
  pub holds : new ≡ filled i old (bytes (length old) x)
  pub left : rest ≡ x / 2 ^ (8 * (length old - i))

abbrev pub invariant-loop-i : goal.invariant-loop-i
invariant-loop-i l = Written l.initial.into l.into l.x l.rest l.i
