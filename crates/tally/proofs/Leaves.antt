-- A pair of bytes with one more.
-- Assumes nothing.
use mathlib.Core.Path.{◌≡◌}
use mathlib.Core.List.{List}
use Prim.Native.Nat.{ℕ, ◌+◌, ◌*◌, ◌/◌, ◌%◌, ◌≤◌, ◌<◌}
use native.Mathlib.Nat.{mul_comm}
use native.Mathlib.Omega.{arith}
use lib.ListN.{length, take, drop}
use borrow.Author.Tests.{lt-ltb}
use Rattle.octets.specs.Octets.{number, bytes, lay}
use Rattle.octets.proofs.Numbers.{bytes_mod}
use Rattle.octets.proofs.Runs.{get_or-numbers}
use Rattle.doubles.specs.Doubles.{pair_at, put_pair}

pub pair-raised : (c : List ℕ) (j : ℕ) → 2 * j + 2 ≤ length c → put_pair j ((pair_at j c + 1) % 65536) c ≡ lay (2 * j) (bytes 2 (number (take 2 (drop (2 * j) c)) + 1)) c
unfolding put_pair
pair-raised c j h =
    let inside : j < length c / 2 = omega arith in
    rw (lt-ltb j (length c / 2) inside, bytes_mod 2 0 (pair_at j c + 1), get_or-numbers 2 (length c / 2) c j inside, mul_comm j 2)
