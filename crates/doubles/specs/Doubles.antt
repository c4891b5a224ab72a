-- Numbers of two bytes in a run, by their place: uses, and the kept places of arrivals.
use Rattle.std.specs.Prelude.{ℕ, ◌*◌, ◌/◌, cond, List, ltb, length, get_or}
use Rattle.octets.specs.Octets.{bytes, numbers, lay}

-- All of them.
abbrev pub pairs_in : List ℕ → List ℕ
pairs_in bs = numbers 2 (length bs / 2) bs

-- The one at place i; 0 past the end.
abbrev pub pair_at : ℕ → List ℕ → ℕ
pair_at i bs = get_or (pairs_in bs) i 0

-- A run with the one at place i written anew; past the end nothing is.
unfoldable pub put_pair : ℕ → ℕ → List ℕ → List ℕ
put_pair i x bs = cond (ltb i (length bs / 2)) (lay (2 * i) (bytes 2 x) bs) bs
