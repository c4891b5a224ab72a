-- The parts that a state hands back, by the tests that the code makes; and its part that came back empty.
-- Assumes nothing.
use mathlib.Core.Path.{◌≡◌, refl, ap, ◌∙◌}
use mathlib.Core.Bool.{true, false}
use mathlib.Core.List.{List, ◌++◌}
use Prim.Native.Nat.{ℕ, ◌*◌, ◌≤◌, ◌<◌}
use native.Mathlib.Omega.{arith}
use lib.Seq.{length-take-le}
use lib.ListN.{length, take, drop, replicate, length-replicate}
use borrow.Author.Tests.{le-leb, lt-leb}
use Rattle.octets.specs.Octets.{over}
use Rattle.state.specs.Layout.{order_at, state_bytes, has_part, part_at, part}
use Rattle.state.proofs.Sizes.{sizes}

-- ---- handed back

module _ (at most n : ℕ) (state : List ℕ) where
  no_part : has_part most n state ≡ false → (part_at at most n state ≡ 0) × (part at most n state ≡ take 0 state)
  unfolding part part_at
  no_part e = rw e (refl, refl)

  some-part : has_part most n state ≡ true → (part_at at most n state ≡ at) × (part at most n state ≡ take (2 * n) (drop at state))
  unfolding part part_at
  some-part e = rw e (refl, refl)

  pub too_many : most < n → (part_at at most n state ≡ 0) × (part at most n state ≡ take 0 state)
  too_many h = no_part (unfold has_part in rw (lt-leb n most h))

  pub too_short : n ≤ most → length state < state_bytes → (part_at at most n state ≡ 0) × (part at most n state ≡ take 0 state)
  too_short a h = no_part (unfold has_part in rw (le-leb n most a, lt-leb state_bytes (length state) h))

  pub part_is : n ≤ most → state_bytes ≤ length state → (part_at at most n state ≡ at) × (part at most n state ≡ take (2 * n) (drop at state))
  part_is a h = some-part (unfold has_part in rw (le-leb n most a, le-leb state_bytes (length state) h))

-- ---- come back

pub cleared-laid : (n : ℕ) (state new : List ℕ) → n ≡ order_at → state_bytes ≤ length state → new ≡ replicate (length (take n state)) 0
    → new ++ drop n state ≡ over (replicate order_at 0) state
unfolding over
cleared-laid n state new e h f =
    let size : length (take n state) ≡ order_at = ap (λ (k : ℕ). length (take k state)) e ∙ length-take-le order_at state (omega (arith, sizes)) in
    rw (f ∙ ap (λ (k : ℕ). replicate k 0) size) (rw (length-replicate {A = ℕ} order_at 0) (rw e))
