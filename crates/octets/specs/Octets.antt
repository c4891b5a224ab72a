-- Bytes and the numbers that they stand for, big-endian throughout. A byte is a number below 256.
use Rattle.std.specs.Prelude.{ℕ, zero, suc, ◌+◌, ◌*◌, ◌/◌, ◌%◌, ◌^◌, List, [], ◌∷◌, ◌++◌, length, take, drop}
use Rattle.space.specs.Space.{◌⊕◌}

-- The number that bytes stand for, the first byte highest.
unfoldable pub number : List ℕ → ℕ
number [] = 0
number (b ∷ bs) = b * 2 ^ (8 * length bs) + number bs

-- The w lowest bytes of a number, the highest first.
unfoldable pub bytes : ℕ → ℕ → List ℕ
bytes zero x = []
bytes (suc w) x = x / 2 ^ (8 * w) % 256 ∷ bytes w x

-- The first m numbers in a run of bytes, w bytes each.
unfoldable pub numbers : ℕ → ℕ → List ℕ → List ℕ
numbers w zero bs = []
numbers w (suc m) bs = number (take w bs) ∷ numbers w m (drop w bs)

-- Numbers one after the other, w bytes each.
unfoldable pub flat : ℕ → List ℕ → List ℕ
flat w [] = []
flat w (x ∷ xs) = bytes w x ++ flat w xs

-- Two runs of bytes added bit by bit.
unfoldable pub xor_bytes : List ℕ → List ℕ → List ℕ
xor_bytes [] ys = []
xor_bytes (x ∷ xs) [] = []
xor_bytes (x ∷ xs) (y ∷ ys) = x ⊕ y ∷ xor_bytes xs ys

-- A buffer with its first elements written anew; all further ones stay.
unfoldable pub over : List ℕ → List ℕ → List ℕ
over new old = new ++ drop (length new) old

-- A buffer with bytes added bit by bit to its first ones; all further ones stay.
unfoldable pub add_front : List ℕ → List ℕ → List ℕ
add_front a b = xor_bytes a b ++ drop (length b) a

-- A buffer with elements written anew from an index on; those on either side stay.
unfoldable pub lay : ℕ → List ℕ → List ℕ → List ℕ
lay at new old = take at old ++ (new ++ drop (length new) (drop at old))
