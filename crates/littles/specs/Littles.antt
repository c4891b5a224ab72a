-- Bytes as a number, the first lowest: eight of a run, and the bytes of a number.
use Rattle.std.specs.Prelude.{ℕ, zero, suc, ◌+◌, ◌*◌, ◌/◌, ◌%◌, cond, List, [], ◌∷◌, leb, length, take, drop}

-- The number that bytes stand for, the first byte lowest.
unfoldable pub little_of : List ℕ → ℕ
little_of [] = 0
little_of (b ∷ bs) = little_of bs * 256 + b

-- That of the eight bytes from an index on; 0 where there are fewer.
unfoldable pub little_at : ℕ → List ℕ → ℕ
little_at i bs = cond (leb (i + 8) (length bs)) (little_of (take 8 (drop i bs))) 0

-- The w lowest bytes of a number, the lowest first.
unfoldable pub little_bytes : ℕ → ℕ → List ℕ
little_bytes zero x = []
little_bytes (suc w) x = x % 256 ∷ little_bytes w (x / 256)
