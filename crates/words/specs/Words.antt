-- Eight bytes of a run as one number, or four, the first highest.
use Rattle.std.specs.Prelude.{ℕ, cond, List, ◌++◌, leb, length, take, drop, replicate}
use Rattle.octets.specs.Octets.{number}

-- The number of the eight bytes from an index on, with zeros for those past the end.
unfoldable pub word_at : ℕ → List ℕ → ℕ
word_at i bs = number (take 8 (drop i bs ++ replicate 8 0))

-- The number of the first four bytes; 0 where there are fewer.
unfoldable pub four_of : List ℕ → ℕ
four_of bs = cond (leb 4 (length bs)) (number (take 4 bs)) 0
