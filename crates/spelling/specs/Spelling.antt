-- Hexadecimal digits: the line of a page. Document 01, "The page reader program".
use Rattle.std.specs.Prelude.{ℕ, ◌+◌, ◌*◌, ◌/◌, ◌%◌, cond, List, [], ◌∷◌, Option, None, Some, ltb, length}
use Rattle.octets.specs.Octets.{over}

-- "in lower-case hexadecimal": the digit of a number below 16.
unfoldable pub letter : ℕ → ℕ
letter d = cond (ltb d 10) (48 + d) (87 + d)

-- Two digits for each byte.
unfoldable pub spelling : List ℕ → List ℕ
spelling [] = []
spelling (b ∷ bytes) = letter (b / 16) ∷ letter (b % 16) ∷ spelling bytes

-- The answer for so many bytes, and a lent text of so many characters.
unfoldable pub spelt : ℕ → ℕ → Option ℕ
spelt count room = cond (ltb (room / 2) count) None (Some (2 * count))

-- What is written.
unfoldable pub spelt_characters : Option ℕ → List ℕ → List ℕ
spelt_characters (Some k) bytes = spelling bytes
spelt_characters None bytes = []

-- The lent text at exit.
unfoldable pub spelt_text : List ℕ → List ℕ → List ℕ
spelt_text bytes text = over (spelt_characters (spelt (length bytes) (length text)) bytes) text
