-- The uses at each arrival number. Document 01, "Answer numbers of a reading".
use Rattle.std.specs.Prelude.{ℕ, ◌/◌, cond, List, map, leb, length, Option, Some, None}
use Rattle.octets.specs.Octets.{flat, over}
use Rattle.doubles.specs.Doubles.{pairs_in, pair_at}
use Rattle.places.specs.declared.KeptPlace.{KeptPlace}
use Rattle.places.specs.Places.{given_by}

-- ---- at one arrival number

-- "65535 for another", a row that is not kept.
abbrev pub not_kept : ℕ
not_kept = 65535

-- The uses of a row whose arrival was given this, from the bytes that count them by kept place.
unfoldable pub uses_of : List ℕ → Option KeptPlace → ℕ
uses_of counts (Some place) = pair_at place.0 counts
uses_of counts None = not_kept

-- ---- at all of them

-- "the first m uses (the count for a kept row, 65535 for another)", where bytes tell the kept places of m arrivals.
unfoldable pub uses_marked : List ℕ → List ℕ → List ℕ
uses_marked places counts = map (λ x. uses_of counts (given_by x)) (pairs_in places)

-- ---- a buffer afterwards: marked where it has room for each row, and else as it was

-- Of any elements, by for how many uses there is room in so many, and how uses are written from their front.
abbrev pub uses_after_in : {T : Type 0} → (ℕ → ℕ) → (List ℕ → List T → List T) → List ℕ → List ℕ → List T → List T
uses_after_in room_in written places counts uses = cond (leb (length places / 2) (room_in (length uses))) (written (uses_marked places counts) uses) uses

unfoldable pub uses_after : List ℕ → List ℕ → List ℕ → List ℕ
uses_after = uses_after_in (λ k. k) over

-- The uses as pairs of bytes, the higher byte first.
unfoldable pub pairs_after : List ℕ → List ℕ → List ℕ → List ℕ
pairs_after = uses_after_in (λ k. k / 2) (λ uses bytes. over (flat 2 uses) bytes)
