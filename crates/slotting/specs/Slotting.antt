-- A kept row in its slot, and its head among the heads: `put` and `put_head` of the code.
use Rattle.std.specs.Prelude.{ℕ, ◌+◌, ◌-◌, ◌*◌, ◌/◌, ◌%◌, Bool, cond, ◌&&◌, List, eqb, ltb, length}
use Rattle.octets.specs.Octets.{lay}
use Rattle.words.specs.Words.{word_at}
use Rattle.littles.specs.Littles.{little_bytes}
use Rattle.places.specs.Places.{named}

-- A slot has a vector: a row and its tail, which has the 40 bytes that name kept rows, and as many more as the row has fewer than 40.
unfoldable pub vector_bytes : ℕ
vector_bytes = 80

-- Whether a vector of so many bytes fits slot t of slots that have so many together.
unfoldable pub fits_slot : ℕ → ℕ → ℕ → Bool
fits_slot t vector room = eqb vector vector_bytes && ltb t (room / vector_bytes)

-- The vector, with the digit that names kept place r, at slot t. Nothing is written where it does not fit.
unfoldable pub slotted : ℕ → List ℕ → ℕ → List ℕ → List ℕ
slotted t vector r slots = cond (fits_slot t (length vector) (length slots)) (lay (t * vector_bytes) (named r vector) slots) slots

-- Of slot t: where its head begins, of the heads of 64 slots the last one's first; and the head, the eight bytes in which its first digit
-- stands, the last one first.
unfoldable pub head_in : ℕ → ℕ
head_in t = 512 * (t / 64) + 8 * (63 - t % 64)

unfoldable pub head_of : ℕ → List ℕ → List ℕ
head_of t slot = little_bytes 8 (word_at (8 * (t / 64)) slot)

-- Its head among the heads. Nothing is written where there are none for its 64 slots.
unfoldable pub headed : ℕ → List ℕ → List ℕ → List ℕ
headed t vector heads = cond (ltb (t / 64) (length heads / 512)) (lay (head_in t) (head_of t vector) heads) heads
