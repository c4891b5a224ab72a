-- `octets::add` meets its contract: a loop from the front that fills with the sums, as many as the shorter of the two has bytes.
-- Assumes nothing.
use mathlib.Core.Path.{◌≡◌, sym, ap, ◌∙◌}
use mathlib.Core.List.{List}
use Prim.Native.Nat.{ℕ, min, ◌+◌, ◌≤◌, ◌<◌}
use native.Mathlib.Omega.{arith}
use lib.Bits.{bit_xor}
use lib.ListN.{length, get_or, set}
use Rattle.space.specs.Space.{◌⊕◌}
use Rattle.octets.specs.Octets.{xor_bytes, add_front}
use Rattle.octets.proofs.Xors.{length-xor_bytes-min, get_or-xor_bytes, add_front-over}
use Rattle.octets.proofs.Fill.{Filling, filling_more, filling_at, filling_end}
use Rattle.octets.proofs.add.Goals as goal

module _ (a b : List ℕ) (n : ℕ) (e : n ≡ min (length a) (length b)) where
  size : length (xor_bytes a b) ≡ n
  size = length-xor_bytes-min a b ∙ sym e

  turn : (now : List ℕ) (i : ℕ) → Filling (xor_bytes a b) a now n i → i < n → Filling (xor_bytes a b) a (set now i (bit_xor (get_or now i 0) (get_or b i 0))) n (i + 1)
  unfolding ◌⊕◌
  turn now i f h =
      filling_more (xor_bytes a b) a n size (omega arith) now i f h _
      (ap (λ x. bit_xor x (get_or b i 0)) (filling_at (xor_bytes a b) a n size (omega arith) now i f h) ∙ sym (get_or-xor_bytes a b i (omega arith) (omega arith)))

  end : (now : List ℕ) (i : ℕ) → Filling (xor_bytes a b) a now n i → n ≤ i → now ≡ add_front a b
  end now i f h = filling_end (xor_bytes a b) a n size (omega arith) now i f h ∙ sym (add_front-over a b)

pub loop-i-preserved : goal.loop-i-preserved
loop-i-preserved c = turn _ _ _ c.min-i-end.ensures _ _ c.loop-i.invariant c.loop-i-test.true

pub returns : goal.returns
returns c = end _ _ _ c.min-i-end.ensures _ _ c.loop-i.invariant c.loop-i-test.false
