-- How bytes tell the kept place of an arrival, and the digit that names a kept place.
use Rattle.std.specs.Prelude.{ℕ, zero, suc, ◌/◌, ◌^◌, cond, List, ltb, length, Option, Some, None}
use Rattle.space.specs.Space.{◌⊕◌}
use Rattle.octets.specs.Octets.{number, bytes}
use Rattle.places.specs.declared.KeptPlace.{KeptPlace}

-- The most rows of a list: "over 512 rows" it is refused.
abbrev pub most_rows : ℕ
most_rows = 512

-- Of each arrival bytes tell its kept place and 1, or 0 where its row is not kept. What such a number tells:
unfoldable pub given_by : ℕ → Option KeptPlace
given_by zero = None
given_by (suc p) = Some (record { 0 = p })

-- A tail with the digit worth 2^p turned, which names kept place p.
unfoldable pub named : ℕ → List ℕ → List ℕ
named p tail = cond (ltb (p / 8) (length tail)) (bytes (length tail) (number tail ⊕ 2 ^ p)) tail
