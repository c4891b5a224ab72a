-- Uses, in pairs of bytes, with one more for each kept place that the digits of a number mark.
use Rattle.std.specs.Prelude.{ℕ, ◌+◌, ◌*◌, ◌^◌, ◌<◌, ◌≡◌, Bool, cond, ◌&&◌, List, eqb, leb, length}
use Rattle.space.specs.Lists.{Below}
use Rattle.octets.specs.Octets.{number, numbers, flat}
use Rattle.reading.specs.Raised.{raised}
use Rattle.basis.specs.Algorithm2.{digits}

-- A row of 40 bytes has 320 digits, so no more rows are kept; a tail has a digit for each.
unfoldable pub most_kept : ℕ
most_kept = 320

unfoldable pub tail_bytes : ℕ
tail_bytes = 40

-- The uses of r kept places, with one more for each that the tail names. Uses count modulo 65,536.
unfoldable pub raised_uses : ℕ → List ℕ → List ℕ → List ℕ
raised_uses r tail uses = flat 2 (raised (digits r (number tail)) (numbers 2 r uses))

-- Whether so many bytes are the uses of r kept places, and so many a tail.
unfoldable pub tallies : ℕ → ℕ → ℕ → Bool
tallies uses tail r = leb r most_kept && (eqb tail tail_bytes && eqb uses (2 * r))

-- The uses afterwards, the same where they do not fit.
unfoldable pub tallied : ℕ → List ℕ → List ℕ → List ℕ
tallied r tail uses = cond (tallies (length uses) (length tail) r) (raised_uses r tail uses) uses

unfoldable pub uses_by : List ℕ → ℕ → List ℕ
uses_by us q = flat 2 (raised (digits (length us) q) us)

-- Uses that were raised by digits below 2^j are then raised by those of names too, from kept place j on.
pub record Tallied (j names : ℕ) (before after : List ℕ) : Type 0 where
  pub each : (us : List ℕ) (q : ℕ) → Below 65536 us → q < 2 ^ j → before ≡ uses_by us q → after ≡ uses_by us (names * 2 ^ j + q)
