-- The entries of a list of bytes, and the rows in them: there and back.
-- Assumes nothing.
use mathlib.Core.Path.{◌≡◌, ap, ◌∙◌}
use Prim.Native.Nat.{ℕ, ◌*◌, ◌^◌, ◌<◌}
use native.Mathlib.Nat.{mul-div_cancel}
use native.Mathlib.Omega.{arith}
use mathlib.Core.List.{List, map}
use lib.ListN.{length, length-map}
use Rattle.space.specs.Lists.{Below}
use Rattle.octets.specs.Octets.{flat}
use Rattle.octets.proofs.Runs.{length-flat, numbers-flat, numbers-small, length-numbers}
use Rattle.rows.specs.Rows.{row_bytes, list_row_bytes, row_count, entries_of, vector, rows_of}
use Rattle.rows.proofs.Entries.{vectors_below}

pub row_count-flat : (l : ℕ) (entries : List ℕ) → row_count l (flat (list_row_bytes l) entries) ≡ length entries
unfolding row_count
row_count-flat l entries =
    let wide : 0 < list_row_bytes l = omega arith in
    rw (length-flat (list_row_bytes l) entries) (mul-div_cancel (length entries) wide)

pub entries-flat : (l : ℕ) (entries : List ℕ) → Below (2 ^ (8 * list_row_bytes l)) entries → entries_of l (flat (list_row_bytes l) entries) ≡ entries
unfolding entries_of
entries-flat l entries b = rw (row_count-flat l entries) (numbers-flat (list_row_bytes l) entries b)

pub rows-flat : (l : ℕ) (entries : List ℕ) → Below (2 ^ (8 * list_row_bytes l)) entries → rows_of l (flat (list_row_bytes l) entries) ≡ map (vector l) entries
unfolding rows_of
rows-flat l entries b = ap (map (vector l)) (entries-flat l entries b)

pub length-entries_of : (l : ℕ) (list : List ℕ) → length (entries_of l list) ≡ row_count l list
unfolding entries_of
length-entries_of l list = length-numbers (list_row_bytes l) (row_count l list) list

pub length-rows_of : (l : ℕ) (list : List ℕ) → length (rows_of l list) ≡ row_count l list
unfolding rows_of
length-rows_of l list = length-map (entries_of l list) (vector l) ∙ length-entries_of l list

pub entries_below : (l : ℕ) (list : List ℕ) → Below 256 list → Below (2 ^ (8 * list_row_bytes l)) (entries_of l list)
unfolding entries_of
entries_below l list b = numbers-small (list_row_bytes l) (row_count l list) list b

pub rows_below : (l : ℕ) (list : List ℕ) → Below (2 ^ (8 * row_bytes l)) (rows_of l list)
unfolding rows_of
rows_below l list = vectors_below l (entries_of l list)
