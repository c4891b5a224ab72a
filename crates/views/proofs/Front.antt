-- A state whose front is written over, as solving does: where no slot is read any more, uses, kept places and order are as they were.
-- Assumes nothing.
use mathlib.Core.Path.{◌≡◌, refl, ap}
use mathlib.Core.Bool.{Bool, true, false, cond, ◌&&◌}
use mathlib.Core.List.{List}
use Prim.Native.Nat.{ℕ, ◌*◌, ◌≤◌}
use native.Mathlib.Omega.{arith}
use lib.Dec.{leb}
use lib.ListN.{length, take, drop}
use Rattle.octets.specs.Octets.{over}
use Rattle.octets.proofs.Runs.{length_over}
use Rattle.octets.proofs.Lay.{drop-over}
use Rattle.tally.specs.Tally.{most_kept}
use Rattle.state.specs.Layout.{uses_at, places_at, order_at, state_bytes, has_part, part_at, part, uses_part, places_part, order_part}
use Rattle.state.proofs.Sizes.{sizes}

module _ (new state : List ℕ) (front : length new ≤ uses_at) (whole : state_bytes ≤ length state) where
  pub front_length : length (over new state) ≡ length state
  front_length = length_over new state (omega (arith, sizes))

  part-front : (at most n : ℕ) → uses_at ≤ at → part at most n (over new state) ≡ part at most n state
  unfolding part part_at has_part
  part-front at most n h = rw front_length (go (leb n most && leb state_bytes (length state)))
    where
      go : (b : Bool) → take (cond b (2 * n) 0) (drop (cond b at 0) (over new state)) ≡ take (cond b (2 * n) 0) (drop (cond b at 0) state)
      go true = ap (take (2 * n)) (drop-over at new state (omega arith))
      go false = refl

  pub uses-front : (n : ℕ) → uses_part n (over new state) ≡ uses_part n state
  uses-front n = part-front uses_at most_kept n (omega arith)

  pub places-front : (n : ℕ) → places_part n (over new state) ≡ places_part n state
  places-front n = part-front places_at 512 n (omega (arith, sizes))

  pub order-front : (n : ℕ) → order_part n (over new state) ≡ order_part n state
  order-front n = part-front order_at 512 n (omega (arith, sizes))
