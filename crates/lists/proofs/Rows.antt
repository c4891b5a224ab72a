-- What a row of a list is, by its arrival number: as long as a row, and its number the one that the list's definition has there.
-- Assumes nothing.
use mathlib.Core.Path.{◌≡◌, sym, ap, ◌∙◌}
use mathlib.Core.List.{List, map}
use Prim.Native.Nat.{ℕ, ◌+◌, ◌*◌, ◌≤◌, ◌<◌}
use native.Mathlib.Nat.{div-mul-le_self}
use native.Mathlib.Omega.{arith}
use lib.Pow.{pow_pos}
use lib.ListN.{length, take, drop, get_or, length-drop, get_or-map}
use Rattle.space.specs.Lists.{Below}
use Rattle.octets.specs.Octets.{number}
use Rattle.octets.proofs.Runs.{below_parts, get_or-numbers}
use Rattle.octets.proofs.Digits.{number-back}
use Rattle.octets.proofs.Views.{part_room, length_part}
use Rattle.rows.specs.Rows.{seed_bytes, row_bytes, list_row_bytes, row_count, entries_of, vector, rows_of}
use Rattle.rows.proofs.Entries.{vector-whole}
use Rattle.lists.specs.Lists.{entry_at, size_of, start_of, row_at}
use Rattle.lists.proofs.AtArrival.{is_entry_lem, entry_shows}

module _ (l m : ℕ) (list : List ℕ) where
  -- every entry is bytes of the list
  pub entry_below : Below 256 list → Below 256 (entry_at l m list)
  unfolding entry_at
  entry_below b = (below_parts 256 (size_of l m list) (drop (start_of l m list) list) (below_parts 256 (start_of l m list) list b).1).0

  pub row_below : Below 256 list → Below 256 (row_at l m list)
  unfolding row_at
  row_below b = (below_parts 256 seed_bytes (entry_at l m list) (entry_below b)).1

  module _ (most : m < 512) (h : m < row_count l list) where
    pub entry-room : m * list_row_bytes l + list_row_bytes l ≤ length list
    entry-room = part_room (list_row_bytes l) (row_count l list) m list (unfold row_count in div-mul-le_self (length list) (list_row_bytes l)) h

    shows : entry_at l m list ≡ take (list_row_bytes l) (drop (m * list_row_bytes l) list)
    shows = entry_shows l m list (is_entry_lem l m list most entry-room)

    pub entry_length : length (entry_at l m list) ≡ list_row_bytes l
    entry_length = ap length shows ∙ length_part (list_row_bytes l) (m * list_row_bytes l) list entry-room

    pub entry-number : number (entry_at l m list) ≡ get_or (entries_of l list) m 0
    unfolding entries_of
    entry-number = ap number shows ∙ sym (get_or-numbers (list_row_bytes l) (row_count l list) list m h)

    pub row-length : length (row_at l m list) ≡ row_bytes l
    unfolding row_at
    row-length = length-drop seed_bytes (entry_at l m list) ∙ omega (arith, entry_length)

    pub row_number : Below 256 list → number (row_at l m list) ≡ get_or (rows_of l list) m 0
    unfolding row_at rows_of vector
    row_number b =
        sym (number-back seed_bytes (row_bytes l) (entry_at l m list) (entry_below b) entry_length) ∙ ap (vector l) entry-number
        ∙ sym (get_or-map (vector l) (entries_of l list) m 0) ∙ ap (get_or (map (vector l) (entries_of l list)) m) (vector-whole l 0 (pow_pos _))
