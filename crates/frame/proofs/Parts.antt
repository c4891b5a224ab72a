-- Four bytes as a number.
-- Assumes nothing.
use Rattle.std.proofs.Common.{◌≡◌, ℕ, ◌^◌, ◌<◌, List, length, get_or, Fits, w8}
use Rattle.octets.specs.Octets.{number}
use Rattle.octets.proofs.Numbers.{number_lt}
use Rattle.octets.proofs.Runs.{known_below}

pub four_bytes : (bytes : List ℕ) → ((k : ℕ) → Fits w8 (get_or bytes k 0)) → length bytes ≡ 4 → number bytes < 2 ^ 32
four_bytes bytes known long = rw long at (number_lt bytes (known_below bytes known))
