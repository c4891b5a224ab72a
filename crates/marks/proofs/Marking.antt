-- The loop that marks arrival by arrival, whatever it writes for each and into whatever elements: what a turn does, and what it leaves.
-- Assumes nothing.
use mathlib.Core.Path.{◌≡◌, sym, ap, subst, ◌∙◌}
use Prim.Native.Nat.{ℕ, ◌+◌, ◌/◌, ◌≤◌, ◌<◌}
use native.Mathlib.Numerals.{add-one}
use native.Mathlib.Omega.{arith}
use mathlib.Core.List.{List, [], ◌∷◌, ◌++◌, map}
use lib.ListN.{length, take, length-map}
use lib.Seq.{take-suc, take_all, length-take-le}
use Rattle.doubles.specs.Doubles.{pairs_in, pair_at}
use Rattle.doubles.proofs.Doubles.{length_pairs}
use Rattle.reading.proofs.Spread.{get_or_mapped}
use Rattle.marks.specs.Uses.{Written}

module _ {T : Type 0} (room_in : ℕ → ℕ) (put_at : ℕ → ℕ → List T → List T) (written : List ℕ → List T → List T) (W : Written room_in put_at written)
    (f : ℕ → ℕ) (places : List ℕ) (lent : List T) where
  abbrev marks : List ℕ
  marks = map f (pairs_in places)

  many : length marks ≡ length places / 2
  many = length-map (pairs_in places) f ∙ length_pairs places

  -- At turn i of a loop over what bytes tell of arrivals, f of each of the first i stands written.
  abbrev pub Marked : ℕ → List T → Type 0
  Marked i now = now ≡ written (take i (map f (pairs_in places))) lent

  pub marked_more : (i : ℕ) → i < length places / 2 → length places / 2 ≤ room_in (length lent) → (v : ℕ) → v ≡ f (pair_at i places)
      → (now next : List T) → Marked i now → next ≡ put_at i v now → Marked (i + 1) next
  marked_more i h room v e now next marked put =
      let so_far : length (take i marks) ≡ i = length-take-le i marks (omega (arith, many)) in
      let one_more : take i marks ++ (v ∷ []) ≡ take (i + 1) marks =
      sym (rw (add-one i) (take-suc marks i 0 (omega (arith, many))
      ∙ ap (λ (x : ℕ). take i marks ++ (x ∷ [])) (get_or_mapped f (pairs_in places) i (omega (arith, length_pairs places)) ∙ sym e))) in
      put ∙ ap (put_at i v) marked
      ∙ subst (λ (k : ℕ). put_at k v (written (take i marks) lent) ≡ written (take i marks ++ (v ∷ [])) lent) so_far
      (W.one_more (take i marks) v lent (omega (arith, so_far)))
      ∙ ap (λ (t : List ℕ). written t lent) one_more

  pub marked_end : (i : ℕ) → length places / 2 ≤ i → (now : List T) → Marked i now → now ≡ written (map f (pairs_in places)) lent
  marked_end i h now marked = marked ∙ ap (λ (t : List ℕ). written t lent) (take_all i marks (omega (arith, many)))
