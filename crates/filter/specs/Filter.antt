-- A filter of seeds: of 8,192 bits each seed has two, one by its low 13 bits and one by the 13 above. Document 02, wish 3: equal rows have equal seeds, so a row
-- whose seed was not noted before is equal to no earlier one.
use Rattle.std.specs.Prelude.{ℕ, ◌/◌, ◌%◌, ◌^◌, Bool, true, cond, ◌&&◌, List, [], ◌∷◌, eqb, leb, length, set, get_or}
use Rattle.std.specs.Int.Bits.{bit_or}

unfoldable pub filter_bytes : ℕ
filter_bytes = 1024

-- ---- one bit, by its number modulo 8,192

-- The byte in which it stands.
unfoldable pub byte_of : ℕ → ℕ
byte_of bit = bit / 8 % filter_bytes

-- Whether it is set, and the filter with it set.
unfoldable pub is_set : ℕ → List ℕ → Bool
is_set bit filter = eqb (get_or filter (byte_of bit) 0 / 2 ^ (bit % 8) % 2) 1

unfoldable pub with_set : ℕ → List ℕ → List ℕ
with_set bit filter = set filter (byte_of bit) (bit_or (get_or filter (byte_of bit) 0) (2 ^ (bit % 8)))

-- ---- seeds

-- The number of a seed's second bit; the first has the seed's own.
unfoldable pub second_bit : ℕ → ℕ
second_bit seed = seed / 8192

-- Whether a seed was noted, or others that have its bits.
unfoldable pub noted : ℕ → List ℕ → Bool
noted seed filter = is_set seed filter && is_set (second_bit seed) filter

-- The filter with a seed noted; and with several.
unfoldable pub note : ℕ → List ℕ → List ℕ
note seed filter = with_set (second_bit seed) (with_set seed filter)

unfoldable pub noting : List ℕ → List ℕ → List ℕ
noting [] filter = filter
noting (seed ∷ seeds) filter = noting seeds (note seed filter)

-- ---- `note` of the code, where a filter may be too short: nothing is written, and the seed may have been noted

unfoldable pub note_answer : ℕ → List ℕ → Bool
note_answer seed filter = cond (leb filter_bytes (length filter)) (noted seed filter) true

unfoldable pub note_filter : ℕ → List ℕ → List ℕ
note_filter seed filter = cond (leb filter_bytes (length filter)) (note seed filter) filter
