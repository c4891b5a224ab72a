-- `littles::put_little` meets its contract: a loop from the front that fills with the number's bytes; what is left of it has the bytes to come.
-- Assumes nothing.
use mathlib.Core.Path.{◌≡◌, sym, ap, ◌∙◌}
use mathlib.Core.List.{List}
use Prim.Native.Nat.{ℕ, ◌+◌, ◌/◌, ◌%◌, ◌≤◌, ◌<◌}
use native.Mathlib.Nat.{div-one}
use native.Mathlib.Omega.{arith}
use lib.ListN.{length, set}
use Rattle.octets.proofs.Digits.{rest_more}
use Rattle.octets.proofs.Fill.{filling_start, filling_more, filling_end}
use Rattle.octets.proofs.Lay.{over-all}
use Rattle.littles.specs.Littles.{little_bytes}
use Rattle.littles.proofs.Littles.{length-little_bytes, get_or-little_bytes}
use Rattle.littles.proofs.put_little.Invariants.{Written}
use Rattle.littles.proofs.put_little.Goals as goal

start : (old : List ℕ) (x : ℕ) → Written old old x x 0
start old x = record { fills = filling_start (little_bytes (length old) x) old (length old); left = sym (div-one x) }

module _ (old : List ℕ) (x : ℕ) where
  turn : (new : List ℕ) (rest i : ℕ) → Written old new x rest i → i < length old → Written old (set new i (rest % 256)) x (rest / 256) (i + 1)
  turn new rest i w h = record {
    fills =
        filling_more (little_bytes (length old) x) old (length old) (length-little_bytes (length old) x) (omega arith) new i w.fills h (rest % 256)
        (ap (λ (r : ℕ). r % 256) w.left ∙ sym (get_or-little_bytes (length old) x i h));
    left = ap (λ (r : ℕ). r / 256) w.left ∙ rest_more x i;
  }

  end : (new : List ℕ) (rest i : ℕ) → Written old new x rest i → length old ≤ i → new ≡ little_bytes (length old) x
  end new rest i w h =
      filling_end (little_bytes (length old) x) old (length old) (length-little_bytes (length old) x) (omega arith) new i w.fills h
      ∙ over-all (little_bytes (length old) x) old (length-little_bytes (length old) x)

pub loop-byte-init : goal.loop-byte-init
loop-byte-init c = start _ _

pub loop-byte-preserved : goal.loop-byte-preserved
loop-byte-preserved c = turn _ _ _ _ _ c.loop-byte.invariant c.loop-byte-test.true

pub returns : goal.returns
returns c = end _ _ _ _ _ c.loop-byte.invariant c.loop-byte-test.false
