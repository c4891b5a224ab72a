-- One row that goes into the slots of solving, in bytes: 64 slots of 80 bytes, one for each bit of a constraint, and then a head for each.
use Rattle.std.specs.Prelude.{ℕ, ◌+◌, ◌-◌, ◌*◌, Bool, cond, ◌&&◌, List, eqb, ltb, length, take, replicate}
use Rattle.octets.specs.Octets.{number, bytes, numbers, over, lay}
use Rattle.words.specs.Words.{word_at}
use Rattle.littles.specs.Littles.{little_bytes}
use Rattle.basis.specs.Algorithm2.{Pass, pass}

-- The bytes of 64 slots of 80 bytes, and of a head of 8 for each.
unfoldable pub slot_bytes : ℕ
slot_bytes = 5632

-- The pass of a vector of 80 bytes over the slots: the constraint is the key, all behind it the tail.
abbrev pub whole_pass : List ℕ → List ℕ → Pass
whole_pass slots vector = pass 576 (numbers 80 64 slots) (number vector)

-- The slots with a vector in slot t, and the first eight bytes of it, the last one first, where reducing looks for them.
unfoldable pub stored : ℕ → List ℕ → List ℕ → List ℕ
stored t vector slots = lay (5120 + 8 * (63 - t)) (little_bytes 8 (word_at 0 vector)) (lay (t * 80) vector slots)

-- A vector goes in where its pass stops at an empty slot; that slot then holds what the pass left of it.
unfoldable pub goes_in : List ℕ → List ℕ → Bool
goes_in slots vector = ltb (whole_pass slots vector).stop 64

unfoldable pub slots_with : List ℕ → List ℕ → List ℕ
slots_with slots vector = cond (goes_in slots vector) (stored (whole_pass slots vector).stop (bytes 80 (whole_pass slots vector).vector) slots) slots

-- A row stands at the front of a vector, with zeros behind it.
unfoldable pub vector_of : List ℕ → List ℕ
vector_of row = over (take 80 row) (replicate 80 0)

-- Whether a row went in, and the slots afterwards; nothing goes into other bytes than slots have.
unfoldable pub enter_answer : List ℕ → List ℕ → Bool
enter_answer slots row = eqb (length slots) slot_bytes && goes_in slots (vector_of row)

unfoldable pub enter_slots : List ℕ → List ℕ → List ℕ
enter_slots slots row = cond (eqb (length slots) slot_bytes) (slots_with slots (vector_of row)) slots
