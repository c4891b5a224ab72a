-- Two states that are the same before the order tell the same slots, uses and kept places; two that are the same from the order on tell the same order and
-- filter. So of a write it is enough to say which of the two it leaves.
-- Assumes nothing.
use mathlib.Core.Path.{◌≡◌, sym, ap, ◌∙◌}
use mathlib.Core.List.{List}
use Prim.Native.Nat.{ℕ, ◌+◌, ◌-◌, ◌*◌, ◌≤◌}
use native.Mathlib.Omega.{arith}
use lib.ListN.{take, drop}
use lib.Seq.{drop-drop}
use Rattle.octets.specs.Octets.{numbers}
use Rattle.octets.proofs.Views.{drop-take, numbers-take}
use Rattle.slots.specs.Reducing.{slots_of}
use Rattle.filter.specs.Filter.{filter_bytes}
use Rattle.tally.specs.Tally.{most_kept}
use Rattle.state.specs.Layout.{vector_bytes, uses_at, places_at, order_at, filter_at, slots_in, uses_in, places_in, order_in, filter_in}
use Rattle.state.proofs.Sizes.{sizes, slots_end}

module _ (a b : List ℕ) (same : take order_at a ≡ take order_at b) where
  pub slots_alike : (key : ℕ) → key ≤ 40 → slots_in key a ≡ slots_in key b
  unfolding slots_in slots_of
  slots_alike key h =
      let fits : 8 * key * vector_bytes ≤ order_at = omega (arith, sizes, slots_end key h) in
      sym (numbers-take vector_bytes (8 * key) order_at a fits) ∙ ap (numbers vector_bytes (8 * key)) same ∙ numbers-take vector_bytes (8 * key) order_at b fits

  -- numbers of two bytes before the order
  pairs_alike : (base n : ℕ) → base + 2 * n ≤ order_at → numbers 2 n (drop base a) ≡ numbers 2 n (drop base b)
  pairs_alike base n h = before a ∙ ap (λ (s : List ℕ). numbers 2 n (drop base s)) same ∙ sym (before b)
    where
      before : (s : List ℕ) → numbers 2 n (drop base s) ≡ numbers 2 n (drop base (take order_at s))
      before s = sym (numbers-take 2 n (order_at - base) (drop base s) (omega arith)) ∙ ap (numbers 2 n) (sym (drop-take order_at base s))

  pub uses_alike : (r : ℕ) → r ≤ most_kept → uses_in r a ≡ uses_in r b
  unfolding uses_in
  uses_alike r h = pairs_alike uses_at r (omega (arith, sizes))

  pub places_alike : (n : ℕ) → n ≤ 512 → places_in n a ≡ places_in n b
  unfolding places_in
  places_alike n h = pairs_alike places_at n (omega (arith, sizes))

module _ (a b : List ℕ) (same : drop order_at a ≡ drop order_at b) where
  pub order_alike : (taken : ℕ) → order_in taken a ≡ order_in taken b
  unfolding order_in
  order_alike taken = ap (numbers 2 taken) same

  pub filter_alike : filter_in a ≡ filter_in b
  unfolding filter_in
  filter_alike = ap (take filter_bytes) (behind a ∙ ap (drop (filter_at - order_at)) same ∙ sym (behind b))
    where
      sum : order_at + (filter_at - order_at) ≡ filter_at
      sum = omega (arith, sizes)

      behind : (s : List ℕ) → drop filter_at s ≡ drop (filter_at - order_at) (drop order_at s)
      behind s = ap (λ (k : ℕ). drop k s) (sym sum) ∙ sym (drop-drop (filter_at - order_at) order_at s)
