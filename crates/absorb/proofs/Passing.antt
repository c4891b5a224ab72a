-- A row with an empty tail passes over the slots of a state, and the last bytes of a vector are its tail.
-- Assumes nothing.
use mathlib.Core.Path.{◌≡◌, ap, ◌∙◌}
use mathlib.Core.Bool.{true}
use mathlib.Core.List.{List, ◌++◌}
use Prim.Native.Nat.{ℕ, ◌+◌, ◌-◌, ◌*◌, ◌/◌, ◌^◌, ◌≤◌}
use native.Mathlib.Omega.{arith}
use lib.ListN.{length, take, drop, replicate, length-append, length-replicate}
use lib.Seq.{take_all, drop_at}
use Rattle.octets.specs.Octets.{number, bytes}
use Rattle.octets.proofs.Numbers.{length-bytes}
use Rattle.octets.proofs.Digits.{bytes-append}
use Rattle.octets.proofs.Loaded.{number_loaded}
use Rattle.basis.specs.Algorithm2.{pass}
use Rattle.slots.specs.Reducing.{reducible, slots_of, pass_of}
use Rattle.slots.proofs.Fits.{fits_when}
use Rattle.tally.specs.Tally.{most_kept, tail_bytes}
use Rattle.state.specs.Layout.{vector_bytes, state_bytes, slots_in}
use Rattle.state.proofs.Sizes.{sizes, slots_end}
use Rattle.absorb.specs.Absorbing.{tail_digits, pass_in}

-- the tail names every kept place, and makes a row a vector
pub tail-size : (key : ℕ) → key ≤ 40 → (tail_digits key + 8 * key ≡ 8 * vector_bytes) × (most_kept ≤ tail_digits key)
unfolding tail_digits
tail-size key h = (omega (arith, sizes), omega (arith, sizes))

pub fits-row : (key room : ℕ) → key ≤ 40 → state_bytes ≤ room → reducible key vector_bytes room ≡ true
fits-row key room h l = fits_when key vector_bytes room (record { inside = omega (arith, sizes); small = omega (arith, sizes); big = omega (arith, slots_end key h, sizes) })

-- a row with an empty tail passes over them
pub pass_loaded : (row slots : List ℕ) → length row ≤ 40 → pass_of (length row) slots (row ++ replicate (vector_bytes - length row) 0) ≡ pass_in (length row) (number row) slots
unfolding pass_of pass_in slots_in tail_digits
pass_loaded row slots h =
    let wide : length (row ++ replicate (vector_bytes - length row) 0) ≡ vector_bytes =
    length-append row (replicate (vector_bytes - length row) 0) ∙ ap (λ (n : ℕ). length row + n) (length-replicate (vector_bytes - length row) 0) ∙ omega (arith, sizes) in
    rw wide (ap (pass (8 * (vector_bytes - length row)) (slots_of (length row) vector_bytes slots)) (number_loaded row (vector_bytes - length row)))

-- the last 40 bytes of a vector
pub tail-bytes : (x : ℕ) (work : List ℕ) → work ≡ bytes vector_bytes x → take 40 (drop 40 work) ≡ bytes tail_bytes x
unfolding vector_bytes tail_bytes
tail-bytes x work e =
    ap (λ (l : List ℕ). take 40 (drop 40 l)) (e ∙ bytes-append 40 40 x)
    ∙ ap (take 40) (drop_at (bytes 40 (x / 2 ^ 320)) (bytes 40 x) 40 (length-bytes 40 (x / 2 ^ 320))) ∙ take_all 40 (bytes 40 x) (omega (arith, length-bytes 40 x))
