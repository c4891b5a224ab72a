-- Where everything lies in the state of an elimination. From byte 0 on stand the slots, each a row and its tail in 80 bytes; then the uses of each
-- kept place, two bytes each; then for each arrival the kept place that it was given, two bytes each; then the heads, which repeat eight bytes of
-- each slot and tell nothing that the slots don't; then the order in which rows are taken, an arrival in two bytes each; then a filter of seeds.
use Rattle.std.specs.Prelude.{ℕ, ◌*◌, Bool, cond, ◌&&◌, List, leb, length, take, drop}
use Rattle.octets.specs.Octets.{numbers}
use Rattle.doubles.specs.Doubles.{pair_at}
use Rattle.places.specs.Places.{most_rows}
use Rattle.filter.specs.Filter.{filter_bytes}
use Rattle.tally.specs.Tally.{most_kept}
use Rattle.slots.specs.Reducing.{slots_of}
unfoldable pub use Rattle.slotting.specs.Slotting.{vector_bytes}

-- Where the uses, the kept places, the heads, the order and the filter begin, and the state ends.
unfoldable pub uses_at : ℕ
uses_at = 25600

unfoldable pub places_at : ℕ
places_at = 26240

unfoldable pub heads_at : ℕ
heads_at = 27264

unfoldable pub order_at : ℕ
order_at = 29824

unfoldable pub filter_at : ℕ
filter_at = 30848

unfoldable pub state_bytes : ℕ
state_bytes = 31872

-- ---- what a state tells

-- The slots of rows of so many bytes; the uses of the first r kept places; what the first m arrivals were given; the first arrivals of the order.
unfoldable pub slots_in : ℕ → List ℕ → List ℕ
slots_in key state = slots_of key vector_bytes state

unfoldable pub uses_in : ℕ → List ℕ → List ℕ
uses_in r state = numbers 2 r (drop uses_at state)

unfoldable pub places_in : ℕ → List ℕ → List ℕ
places_in m state = numbers 2 m (drop places_at state)

unfoldable pub order_in : ℕ → List ℕ → List ℕ
order_in taken state = numbers 2 taken (drop order_at state)

-- Its filter of seeds.
unfoldable pub filter_in : List ℕ → List ℕ
filter_in state = take filter_bytes (drop filter_at state)

-- ---- parts of it

-- Whether a state has n numbers of which it has room for so many.
unfoldable pub has_part : ℕ → ℕ → List ℕ → Bool
has_part most n state = leb n most && leb state_bytes (length state)

-- Where the part with n numbers of two bytes begins that stand from a byte on, and its bytes; the empty part at the start where there is none.
unfoldable pub part_at : ℕ → ℕ → ℕ → List ℕ → ℕ
part_at at most n state = cond (has_part most n state) at 0

unfoldable pub part : ℕ → ℕ → ℕ → List ℕ → List ℕ
part at most n state = take (cond (has_part most n state) (2 * n) 0) (drop (part_at at most n state) state)

abbrev pub uses_part : ℕ → List ℕ → List ℕ
uses_part r state = part uses_at most_kept r state

abbrev pub places_part : ℕ → List ℕ → List ℕ
places_part m state = part places_at most_rows m state

abbrev pub order_part : ℕ → List ℕ → List ℕ
order_part taken state = part order_at most_rows taken state

-- The arrival at place i of the order; 0 where there is none.
unfoldable pub arrival_at : ℕ → List ℕ → ℕ
arrival_at i state = pair_at i (order_part most_rows state)
