-- Parts of a frame: of few bytes as a number.
-- Assumes nothing.
use mathlib.Core.Path.{◌≡◌}
use Prim.Native.Nat.{ℕ, ◌*◌, ◌%◌, ◌^◌, ◌≤◌}
use native.Mathlib.Nat.{mod-eq_of_lt, lt_of_lt_of_le}
use native.Mathlib.Omega.{arith}
use mathlib.Core.List.{List}
use lib.ListN.{length, take, drop, length-take}
use lib.Pow.{pow_mono}
use Rattle.space.specs.Lists.{Below}
use Rattle.octets.specs.Octets.{number}
use Rattle.octets.proofs.Numbers.{number_lt}
use Rattle.octets.proofs.Runs.{below_parts}

-- a part of the frame of at most w bytes, as a number, fits w bytes
pub number-part : (at size w : ℕ) (frame : List ℕ) → Below 256 frame → size ≤ w
    → number (take size (drop at frame)) % 2 ^ (8 * w) ≡ number (take size (drop at frame))
number-part at size w frame b h =
    let part : List ℕ = take size (drop at frame) in
    let narrow : length part ≤ w = simp length-take (omega arith) in
    let below : Below 256 part = (below_parts 256 size (drop at frame) (below_parts 256 at frame b).1).0 in
    mod-eq_of_lt (lt_of_lt_of_le (number_lt part below) (pow_mono (omega arith)))
