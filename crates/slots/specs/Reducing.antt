-- A pass over slots in bytes: `reduce` of the code. A vector is a key of some bytes and then its tail; there is a slot, as wide as the
-- vector, for each digit of a key.
use Rattle.std.specs.Prelude.{ℕ, ◌+◌, ◌-◌, ◌*◌, ◌≤◌, ◌<◌, ◌≡◌, Bool, cond, ◌&&◌, List, Option, Some, None, leb, ltb, length, drop}
use Rattle.octets.specs.Octets.{number, bytes, numbers}
use Rattle.vectors.specs.Vectors.{bytes_of}
use Rattle.vectors.specs.declared.Vector.{Vector}
use Rattle.slots.specs.declared.Reduced.{Reduced}
use Rattle.slots.specs.declared.Reduced.TheVariants.{Stopped, Spent, Misfit}
use Rattle.basis.specs.Algorithm2.{Pass, pass}

-- Whether the key lies within a vector of w bytes, the vector is no longer than 4,096 bytes, and there is room for a slot for each digit.
unfoldable pub reducible : ℕ → ℕ → ℕ → Bool
reducible key w room = leb key w && (leb w 4096 && leb (8 * key * w) room)

-- The slots' numbers.
unfoldable pub slots_of : ℕ → ℕ → List ℕ → List ℕ
slots_of key w slots = numbers w (8 * key) slots

-- The pass of a vector over them.
unfoldable pub pass_of : ℕ → List ℕ → List ℕ → Pass
pass_of key slots work = pass (8 * (length work - key)) (slots_of key (length work) slots) (number work)

-- The rest of a pass, from slot u on.
unfoldable pub rest_from : ℕ → List ℕ → List ℕ → ℕ → Pass
rest_from key slots work u = pass (8 * (length work - key)) (drop u (slots_of key (length work) slots)) (number work)

-- The vector before and after the pass over the 64 slots from byte g of the key on, and where that ended: either where the whole pass stops,
-- or behind these slots, from where the rest of the pass ends as the pass from byte g on does.
pub record Grouped (key : ℕ) (slots before after : List ℕ) (g ended : ℕ) : Type 0 where
  pub within : ended ≤ 8 * key
  pub stopped : ended < 8 * g + 64
      → ((rest_from key slots before (8 * g)).vector ≡ number after) × (8 * g + (rest_from key slots before (8 * g)).stop ≡ ended)
  pub passed : 8 * g + 64 ≤ ended
      → (ended ≡ 8 * g + 64) × ((rest_from key slots after ended).vector ≡ (rest_from key slots before (8 * g)).vector)
      × (ended + (rest_from key slots after ended).stop ≡ 8 * g + (rest_from key slots before (8 * g)).stop)

-- What a walk came to: the vector, and where it ended, are those of the pass over the 64 slots; astray, it tells nothing.
unfoldable pub Walked : ℕ → List ℕ → List ℕ → ℕ → Option (Vector × ℕ) → Type 0
Walked key slots before g (Some (v, ended)) = Grouped key slots before (bytes_of v) g ended
Walked key slots before g None = Unit {0}

-- Where a pass over n slots stops.
unfoldable pub stop_of : ℕ → Pass → Reduced
stop_of n p = cond (ltb p.stop n) (Stopped p.stop) Spent

-- The answer; and the vector afterwards, unchanged where it does not fit.
unfoldable pub reduce_answer : ℕ → List ℕ → List ℕ → Reduced
reduce_answer key slots work = cond (reducible key (length work) (length slots)) (stop_of (8 * key) (pass_of key slots work)) Misfit

unfoldable pub reduce_work : ℕ → List ℕ → List ℕ → List ℕ
reduce_work key slots work = cond (reducible key (length work) (length slots)) (bytes (length work) (pass_of key slots work).vector) work
