-- Numbers written back over the bytes that they were read from.
-- Assumes nothing.
use mathlib.Core.Path.{◌≡◌, sym, ap, ap₂, ◌∙◌}
use Prim.Native.Nat.{ℕ, zero, suc, ◌+◌, ◌*◌, ◌≤◌}
use native.Mathlib.Nat.{suc-mul}
use native.Mathlib.Omega.{arith}
use mathlib.Core.List.{List, [], ◌∷◌, ◌++◌, append_assoc}
use lib.ListN.{length, take, drop, length-append, length-drop, take-append-drop}
use lib.Seq.{drop-drop, length-take-le}
use Rattle.space.specs.Lists.{Below}
use Rattle.octets.specs.Octets.{number, bytes, numbers, flat, over}
use Rattle.octets.proofs.Numbers.{bytes-number, length-bytes}
use Rattle.octets.proofs.Runs.{below_parts, over_none}

over-append : (w : ℕ) (a b old : List ℕ) → length a ≡ w → over (a ++ b) old ≡ a ++ over b (drop w old)
unfolding over
over-append w a b old e =
    rw (length-append a b, e) (append_assoc a b (drop (w + length b) old) ∙ ap (λ t. a ++ (b ++ t)) (sym (drop-drop (length b) w old)))

module _ (w : ℕ) where
  -- all of them
  pub over_same : (k : ℕ) (bs : List ℕ) → k * w ≤ length bs → Below 256 bs → over (flat w (numbers w k bs)) bs ≡ bs
  unfolding numbers flat
  over_same zero bs h b = over_none bs
  over_same (suc k) bs h b =
      let more : suc k * w ≡ k * w + w = suc-mul k w in
      let size : length (take w bs) ≡ w = length-take-le w bs (omega arith) in
      let parts : Below 256 (take w bs) × Below 256 (drop w bs) = below_parts 256 w bs b in
      over-append w (bytes w (number (take w bs))) (flat w (numbers w k (drop w bs))) bs (length-bytes w (number (take w bs)))
      ∙ ap₂ (λ x t. x ++ t) (ap (λ (j : ℕ). bytes j (number (take w bs))) (sym size) ∙ bytes-number (take w bs) parts.0)
      (over_same k (drop w bs) (omega (arith, length-drop w bs)) parts.1) ∙ take-append-drop w bs

  -- the first ones anew
  pub over-flat : (xs : List ℕ) (k : ℕ) (bs : List ℕ) → length xs ≤ k → k * w ≤ length bs → Below 256 bs
      → over (flat w (over xs (numbers w k bs))) bs ≡ over (flat w xs) bs
  unfolding numbers flat over
  over-flat [] k bs e h b = rw (over_none (numbers w k bs)) (over_same k bs h b) ∙ sym (over_none bs)
  over-flat (x ∷ xs) zero bs e h b = absurd (omega arith)
  over-flat (x ∷ xs) (suc k) bs e h b =
      let more : suc k * w ≡ k * w + w = suc-mul k w in
      let parts : Below 256 (take w bs) × Below 256 (drop w bs) = below_parts 256 w bs b in
      over-append w (bytes w x) (flat w (over xs (numbers w k (drop w bs)))) bs (length-bytes w x)
      ∙ ap (λ t. bytes w x ++ t) (over-flat xs k (drop w bs) (omega arith) (omega (arith, length-drop w bs)) parts.1)
      ∙ sym (over-append w (bytes w x) (flat w xs) bs (length-bytes w x))
