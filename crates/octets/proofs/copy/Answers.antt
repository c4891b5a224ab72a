-- `octets::copy` meets its contract: a loop from the front that fills with the given bytes, as many as the shorter of the two has.
-- Assumes nothing.
use mathlib.Core.Path.{◌≡◌, sym, ◌∙◌}
use mathlib.Core.List.{List}
use Prim.Native.Nat.{ℕ, min, ◌+◌, ◌≤◌, ◌<◌}
use native.Mathlib.Omega.{arith}
use lib.ListN.{length, take, get_or, set, length-take}
use lib.Seq.{get_or-take}
use Rattle.octets.specs.Octets.{over}
use Rattle.octets.proofs.Fill.{Filling, filling_more, filling_end}
use Rattle.octets.proofs.copy.Goals as goal

module _ (a b : List ℕ) (n : ℕ) (e : n ≡ min (length a) (length b)) where
  size : length (take (length a) b) ≡ n
  size = length-take (length a) b ∙ sym e

  turn : (now : List ℕ) (i : ℕ) → Filling (take (length a) b) a now n i → i < n → Filling (take (length a) b) a (set now i (get_or b i 0)) n (i + 1)
  turn now i f h = filling_more (take (length a) b) a n size (omega arith) now i f h _ (sym (get_or-take (length a) b i 0 (omega arith)))

  end : (now : List ℕ) (i : ℕ) → Filling (take (length a) b) a now n i → n ≤ i → now ≡ over (take (length a) b) a
  end now i f h = filling_end (take (length a) b) a n size (omega arith) now i f h

pub loop-i-preserved : goal.loop-i-preserved
loop-i-preserved c = turn _ _ _ c.min-i-end.ensures _ _ c.loop-i.invariant c.loop-i-test.true

pub returns : goal.returns
returns c = end _ _ _ c.min-i-end.ensures _ _ c.loop-i.invariant c.loop-i-test.false
