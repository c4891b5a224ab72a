-- What a reading's end leaves of the scratch.
use Rattle.std.specs.Prelude.{ℕ, cond, List, leb, length}
use Rattle.octets.specs.Octets.{over}
use Rattle.reading.specs.Outcome.{zeros, scratch_bytes}

-- "They set the first 32,768 scratch bytes to zero." A scratch that is too short stays.
unfoldable pub cleared : List ℕ → List ℕ
cleared scratch = cond (leb scratch_bytes (length scratch)) (over zeros scratch) scratch
