-- The parts that a state hands back, and its arrivals, are what it tells.
-- Assumes nothing.
use mathlib.Core.Path.{◌≡◌, sym, ap, ◌∙◌}
use mathlib.Core.Bool.{cond}
use mathlib.Core.List.{List}
use Prim.Native.Nat.{ℕ, ◌+◌, ◌*◌, ◌/◌, ◌≤◌, ◌<◌}
use native.Mathlib.Nat.{le_refl}
use native.Mathlib.Omega.{arith}
use lib.ListN.{length, drop, get_or}
use Rattle.space.specs.Lists.{Below}
use Rattle.octets.specs.Octets.{numbers}
use Rattle.octets.proofs.Runs.{below_parts, get_or-numbers}
use Rattle.octets.proofs.Views.{length_part, numbers-take}
use Rattle.doubles.specs.Doubles.{pairs_in}
use Rattle.tally.specs.Tally.{most_kept}
use Rattle.state.specs.Layout.{uses_at, places_at, order_at, state_bytes, uses_in, places_in, order_in, has_part, part_at, part, uses_part, places_part, order_part, arrival_at}
use Rattle.state.proofs.Sizes.{sizes}
use Rattle.state.proofs.Parts.{part_is}

module _ (at most n : ℕ) (state : List ℕ) (few : n ≤ most) (inside : at + 2 * most ≤ state_bytes) (whole : state_bytes ≤ length state) where
  part-size : length (part at most n state) ≡ 2 * n
  part-size = ap length (part_is at most n state few whole).1 ∙ length_part (2 * n) at state (omega arith)

  part-told : pairs_in (part at most n state) ≡ numbers 2 n (drop at state)
  part-told =
      let half : length (part at most n state) / 2 ≡ n = omega (arith, part-size) in
      rw half (ap (numbers 2 n) (part_is at most n state few whole).1 ∙ numbers-take 2 n (2 * n) (drop at state) (omega arith))

-- bytes stay bytes
pub part_below : (at most n : ℕ) (state : List ℕ) → Below 256 state → Below 256 (part at most n state)
unfolding part
part_below at most n state b = (below_parts 256 (cond (has_part most n state) (2 * n) 0) (drop (part_at at most n state) state) (below_parts 256 (part_at at most n state) state b).1).0

module _ (n : ℕ) (state : List ℕ) (whole : state_bytes ≤ length state) where
  pub uses-told : n ≤ most_kept → (length (uses_part n state) ≡ 2 * n) × (pairs_in (uses_part n state) ≡ uses_in n state)
  unfolding uses_in
  uses-told h = (part-size uses_at most_kept n state h (omega (arith, sizes)) whole, part-told uses_at most_kept n state h (omega (arith, sizes)) whole)

  pub places-told : n ≤ 512 → (length (places_part n state) ≡ 2 * n) × (pairs_in (places_part n state) ≡ places_in n state)
  unfolding places_in
  places-told h = (part-size places_at 512 n state h (omega (arith, sizes)) whole, part-told places_at 512 n state h (omega (arith, sizes)) whole)

  pub order-told : n ≤ 512 → (length (order_part n state) ≡ 2 * n) × (pairs_in (order_part n state) ≡ order_in n state)
  unfolding order_in
  order-told h = (part-size order_at 512 n state h (omega (arith, sizes)) whole, part-told order_at 512 n state h (omega (arith, sizes)) whole)

  -- one of the order
  pub arrival-told : (i : ℕ) → i < n → n ≤ 512 → arrival_at i state ≡ get_or (order_in n state) i 0
  unfolding arrival_at order_in
  arrival-told i h l =
      ap (λ (ms : List ℕ). get_or ms i 0) (part-told order_at 512 512 state (le_refl 512) (omega (arith, sizes)) whole)
      ∙ get_or-numbers 2 512 (drop order_at state) i (omega arith) ∙ sym (get_or-numbers 2 n (drop order_at state) i h)
