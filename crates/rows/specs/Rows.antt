-- What crosses between two phones: pages, rows, and when a row agrees with a page. Document 01, "What crosses between two phones".
-- A symbol, a constraint, a payload and a row are each the number of their bytes; a page is the list of its symbols.
use Rattle.std.specs.Prelude.{ℕ, ◌+◌, ◌*◌, ◌/◌, ◌%◌, ◌^◌, Bool, ◌&&◌, List, map, eqb, leb, length}
use Rattle.space.specs.Space.{sum_by}
use Rattle.octets.specs.Octets.{numbers}

-- "n is 1 to 64, L is 1 to 32".
unfoldable pub shape : ℕ → ℕ → Bool
shape n l = (leb 1 n && leb n 64) && (leb 1 l && leb l 32)

-- "Symbol k (from 0) is bytes kL to kL+L-1."
unfoldable pub symbols : ℕ → ℕ → List ℕ → List ℕ
symbols n l page = numbers l n page

-- "A row is a constraint .. and a payload of L bytes": the bytes of a row by itself, 8 of them for the constraint.
abbrev pub row_bytes : ℕ → ℕ
row_bytes l = 8 + l

-- Document 02, wish 3: "The list row gets the 4-byte seed in front, so it has 12+L bytes". What stands for a row in a list is its entry: the seed, then
-- the row. These are the bytes from one entry to the next.
abbrev pub seed_bytes : ℕ
seed_bytes = 4

abbrev pub list_row_bytes : ℕ → ℕ
list_row_bytes l = seed_bytes + row_bytes l

-- The bytes before the payload in an entry.
abbrev pub entry_head_bytes : ℕ
entry_head_bytes = seed_bytes + 8

unfoldable pub row_count : ℕ → List ℕ → ℕ
row_count l list = length list / list_row_bytes l

unfoldable pub entries_of : ℕ → List ℕ → List ℕ
entries_of l list = numbers (list_row_bytes l) (row_count l list) list

-- The seed of an entry, and its row.
unfoldable pub seed : ℕ → ℕ → ℕ
seed l entry = entry / 2 ^ (8 * row_bytes l)

unfoldable pub vector : ℕ → ℕ → ℕ
vector l entry = entry % 2 ^ (8 * row_bytes l)

unfoldable pub rows_of : ℕ → List ℕ → List ℕ
rows_of l list = map (vector l) (entries_of l list)

-- "the constraint as a big-endian 64-bit number, .. then the payload."
unfoldable pub constraint : ℕ → ℕ → ℕ
constraint l row = row / 2 ^ (8 * l)

unfoldable pub payload : ℕ → ℕ → ℕ
payload l row = row % 2 ^ (8 * l)

-- "the exclusive-or of the symbols its constraint names"; "the bit worth 2^k names symbol k"; "the empty sum is all zero bytes."
abbrev pub named : List ℕ → ℕ → ℕ
named page c = sum_by page c

-- "A row agrees with a page when its payload is the exclusive-or of the symbols its constraint names".
unfoldable pub agrees : ℕ → List ℕ → ℕ → Bool
agrees l page row = eqb (payload l row) (named page (constraint l row))

-- The row that a page gives for a constraint, and the entry that it is with a seed.
unfoldable pub made : ℕ → List ℕ → ℕ → ℕ
made l page c = c * 2 ^ (8 * l) + named page c

unfoldable pub entered : ℕ → ℕ → ℕ → ℕ
entered l seed row = seed * 2 ^ (8 * row_bytes l) + row
