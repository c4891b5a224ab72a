-- A list with one entry more, laid behind its first ones: these stay, it stands at their number, and there its seed and its row are read, and whether it
-- repeats one of them.
-- Assumes nothing.
use mathlib.Core.Path.{◌≡◌, sym, ap, ap₂, ◌∙◌}
use mathlib.Core.Bool.{false}
use mathlib.Core.List.{List, [], ◌∷◌, ◌++◌}
use Prim.Native.Nat.{ℕ, ◌+◌, ◌*◌, ◌≤◌, ◌<◌}
use native.Mathlib.Nat.{mul_comm, suc-mul}
use native.Mathlib.Numerals.{add-one}
use native.Mathlib.Omega.{arith}
use lib.ListN.{length, take, drop, get_or}
use Rattle.space.specs.Lists.{Below}
use Rattle.octets.specs.Octets.{number, numbers, lay}
use Rattle.octets.proofs.Runs.{get_or-numbers}
use Rattle.octets.proofs.Lay.{length-lay, part-lay}
use Rattle.octets.proofs.Laid.{numbers-before, numbers_more}
use Rattle.octets.proofs.Views.{part_room, take-numbers}
use Rattle.words.specs.Words.{four_of}
use Rattle.filter.specs.Filter.{noted}
use Rattle.places.specs.Places.{most_rows}
use Rattle.rows.specs.Rows.{row_bytes, list_row_bytes, row_count, entries_of, seed, vector}
use Rattle.lists.specs.Lists.{entry_at, row_at}
use Rattle.lists.proofs.AtArrival.{is_entry_lem, entry_shows}
use Rattle.lists.proofs.Rows.{entry-number, row-length}
use Rattle.reading.specs.Orders.{among}
use Rattle.repeats.specs.Repeats.{repeated}
use Rattle.repeats.proofs.Repeated.{before_end}
use Rattle.order.specs.Listed.{seeds_noted, seed_at}
use Rattle.order.proofs.Seeds.{seed_at_lem, repeated_is, not_noted_new}
use Rattle.holding.proofs.EachHolds.{row_is}
use Rattle.concluding.proofs.Bytes.{lay_low}
use Rattle.current.specs.Current.{first_entries}

module _ (l rows : ℕ) (entry list : List ℕ) (room : list_row_bytes l * most_rows ≤ length list) (more : rows < most_rows) (long : length entry ≡ list_row_bytes l) where
  abbrev pub longer : List ℕ
  longer = lay (list_row_bytes l * rows) entry list

  at : list_row_bytes l * rows ≡ rows * list_row_bytes l
  at = mul_comm (list_row_bytes l) rows

  ends : rows * list_row_bytes l + list_row_bytes l ≤ length list
  ends = part_room (list_row_bytes l) most_rows rows list (omega arith) more

  pub longer-length : length longer ≡ length list
  longer-length = length-lay (list_row_bytes l * rows) entry list (omega (arith, at, ends))

  -- ---- the first entries

  pub firsts_stay : first_entries l rows longer ≡ first_entries l rows list
  unfolding first_entries
  firsts_stay = numbers-before (list_row_bytes l) rows (list_row_bytes l * rows) entry list (omega (arith, at)) (omega (arith, at, ends))

  pub firsts_more : first_entries l (rows + 1) longer ≡ first_entries l rows list ++ (number entry ∷ [])
  unfolding first_entries
  firsts_more =
      ap₂ (λ (n k : ℕ). numbers (list_row_bytes l) n (lay k entry list)) (add-one rows) at
      ∙ numbers_more (list_row_bytes l) rows entry list long (omega (arith, suc-mul rows (list_row_bytes l), ends))

  -- ---- the entry

  there : take (list_row_bytes l) (drop (rows * list_row_bytes l) longer) ≡ entry
  there = rw at (part-lay (rows * list_row_bytes l) (list_row_bytes l) entry list long (omega (arith, ends)))

  ends-longer : rows * list_row_bytes l + list_row_bytes l ≤ length longer
  ends-longer = omega (arith, longer-length, ends)

  inside : rows < row_count l longer
  inside = before_end l rows longer ends-longer

  entry_is : entry_at l rows longer ≡ entry
  entry_is = entry_shows l rows longer (is_entry_lem l rows longer more ends-longer) ∙ there

  pub entry_at_lem : (k : ℕ) → rows < k → get_or (first_entries l k longer) rows 0 ≡ number entry
  unfolding first_entries
  entry_at_lem k h = get_or-numbers (list_row_bytes l) k longer rows h ∙ ap number there

  entry_in : get_or (entries_of l longer) rows 0 ≡ number entry
  entry_in = sym (entry-number l rows longer more inside) ∙ ap number entry_is

  seed_in_lem : seed_at l longer rows ≡ seed l (number entry)
  unfolding seed_at
  seed_in_lem = ap (seed l) entry_in

  -- ---- its row, its seed, and whether it repeats one of the first

  pub longer-row-length : length (row_at l rows longer) ≡ row_bytes l
  longer-row-length = row-length l rows longer more inside

  module _ (low : Below 256 entry) (bytes : Below 256 list) where
    pub longer_low : Below 256 longer
    longer_low = lay_low (list_row_bytes l * rows) entry list low bytes

    pub longer-row : number (row_at l rows longer) ≡ vector l (number entry)
    longer-row = row_is l longer longer_low rows more inside ∙ ap (vector l) entry_in

    pub longer-seed : four_of (entry_at l rows longer) ≡ seed l (number entry)
    longer-seed = seed_at_lem l rows longer more inside longer_low ∙ seed_in_lem

  firsts_in : take rows (entries_of l longer) ≡ first_entries l rows list
  firsts_in = first ∙ firsts_stay
    where
      first : take rows (entries_of l longer) ≡ first_entries l rows longer
      first = unfold entries_of first_entries in take-numbers (list_row_bytes l) rows (row_count l longer) longer (omega (arith, inside))

  pub longer-repeats : repeated l rows longer ≡ among (first_entries l rows list) (number entry)
  longer-repeats = repeated_is l rows longer more inside ∙ ap₂ (λ (es : List ℕ) (e : ℕ). among es e) firsts_in entry_in

  -- one whose seed is not noted repeats none
  pub longer-new : noted (seed l (number entry)) (seeds_noted l (first_entries l rows list)) ≡ false → repeated l rows longer ≡ false
  longer-new e = sym (not_noted_new l rows longer more inside (ap₂ (λ (s : ℕ) (es : List ℕ). noted s (seeds_noted l es)) seed_in_lem firsts_in ∙ e))
