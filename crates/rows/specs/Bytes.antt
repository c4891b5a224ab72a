-- Rows in bytes: those that a page gives, stray bits, and whether a row agrees with a page.
use Rattle.std.specs.Prelude.{ℕ, ◌-◌, ◌/◌, ◌^◌, Bool, ◌&&◌, List, ◌++◌, leb, length}
use Rattle.octets.specs.Octets.{number, bytes}
use Rattle.rows.specs.Rows.{symbols, seed_bytes, named, agrees}

-- "a constraint bit worth 2^n or more".
unfoldable pub stray : ℕ → ℕ → Bool
stray n c = leb (2 ^ n) c

-- The bytes of a row: "the constraint as a big-endian 64-bit number, .. then the payload."
unfoldable pub row_of : ℕ → ℕ → ℕ → List ℕ → List ℕ
row_of n l c page = bytes 8 c ++ bytes l (named (symbols n l page) c)

-- The bytes of an entry: "the 4-byte seed in front".
unfoldable pub entry_of : ℕ → ℕ → ℕ → ℕ → List ℕ → List ℕ
entry_of n l seed c page = bytes seed_bytes seed ++ row_of n l c page

-- The page cut into as many symbols of l bytes as it has.
abbrev pub cut : ℕ → List ℕ → List ℕ
cut l page = symbols (length page / l) l page

-- Whether a row of 8+L bytes, 9 to 40, agrees with a page; no other bytes do.
unfoldable pub bytes_agree : List ℕ → List ℕ → Bool
bytes_agree page row =
    (leb 9 (length row) && leb (length row) 40) && agrees (length row - 8) (cut (length row - 8) page) (number row)
