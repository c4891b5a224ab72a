-- The role at each arrival number. Document 01, "Answer numbers of a reading".
use Rattle.std.specs.Prelude.{ℕ, ◌/◌, Bool, cond, List, map, leb, length, Option, Some, None, Result, Ok, Err}
use Rattle.octets.specs.Octets.{over}
use Rattle.doubles.specs.Doubles.{pairs_in, pair_at}
use Rattle.places.specs.declared.KeptPlace.{KeptPlace}
use Rattle.places.specs.Places.{given_by}
use Rattle.reading.specs.Marks.{plain, telling}
use Rattle.choose.specs.declared.Unpicked.{Unpicked}
use Rattle.choose.specs.Pick.{none_picked}

-- ---- at one arrival number

-- The fewest uses of a row that is marked as picked: "no 2 under 5 and 6".
unfoldable pub least_marked : Result ℕ Unpicked → ℕ
least_marked (Ok least) = least
least_marked (Err _) = none_picked

-- What the kept rows' roles tell of the pick, by what is chosen.
abbrev pub role_by : Result ℕ Unpicked → Bool → ℕ
role_by (Ok least) = telling
role_by (Err _) = plain

-- "1 kept, 2 picked", where the picked have `least` uses or more.
unfoldable pub role : ℕ → ℕ → ℕ
role least u = cond (leb least u) 2 1

-- The role of a row whose arrival was given this, from the bytes that count uses by kept place.
unfoldable pub role_of : ℕ → List ℕ → Option KeptPlace → ℕ
role_of least counts (Some place) = role least (pair_at place.0 counts)
role_of least counts None = 0

-- ---- at all of them

-- "the first m roles (0 not kept, 1 kept, 2 picked; ..)".
unfoldable pub roles_marked : ℕ → List ℕ → List ℕ → List ℕ
roles_marked least places counts = map (λ x. role_of least counts (given_by x)) (pairs_in places)

-- ---- a buffer afterwards: marked where it has room for each row, and else as it was

unfoldable pub roles_after : Result ℕ Unpicked → List ℕ → List ℕ → List ℕ → List ℕ
roles_after choice places counts roles = cond (leb (length places / 2) (length roles)) (over (roles_marked (least_marked choice) places counts) roles) roles
