-- What a current working tells of the rows that are there: the list is cut to them, and the state holds what their list order takes, so whatever ends a
-- reading of such a state ends a reading of these rows.
-- Assumes nothing.
use mathlib.Core.Path.{◌≡◌, refl, sym, ap, ◌∙◌}
use mathlib.Core.Bool.{true}
use mathlib.Core.List.{List, map}
use Prim.Native.Nat.{ℕ, ◌*◌, ◌^◌, ◌≤◌}
use native.Mathlib.Nat.{mul_comm, mul-le-mul_right}
use native.Mathlib.Omega.{arith}
use lib.ListN.{length, take}
use lib.Seq.{length-take-le}
use Rattle.space.specs.Lists.{Below}
use Rattle.octets.specs.Octets.{flat}
use Rattle.octets.proofs.Runs.{below_parts, numbers-small, flat-numbers}
use Rattle.octets.proofs.Views.{numbers-take}
use Rattle.places.specs.Places.{most_rows}
use Rattle.rows.specs.Rows.{shape, list_row_bytes, row_count, entries_of, rows_of, vector, constraint}
use Rattle.rows.proofs.Lists.{row_count-flat, entries-flat, rows-flat}
use Rattle.reading.specs.Reading as reading
use Rattle.reading.specs.Orders as orders
use Rattle.reading.specs.Outcome.{whole_rows}
use Rattle.reading.proofs.Checks.{flat-whole}
use Rattle.holding.specs.Holds.{Holds}
use Rattle.holding.proofs.Listed.{listed_below, listed-distinct}
use Rattle.holding.proofs.Others.{others_hold}
use Rattle.concluding.specs.Concluding.{Concludes}
use Rattle.current.specs.Current.{first_entries, order_of, taken_rows, Current}
use Rattle.current.proofs.Firsts.{length-firsts, order-few, taken_of}

module _ (l : ℕ) (list : List ℕ) (rows taken rank : ℕ) (working : List ℕ) (C : Current l list rows taken rank working) where
  abbrev held : List ℕ
  held = take (list_row_bytes l * rows) list

  at : list_row_bytes l * rows ≡ rows * list_row_bytes l
  at = mul_comm (list_row_bytes l) rows

  pub held_low : Below 256 held
  held_low = (below_parts 256 (list_row_bytes l * rows) list C.list_low).0

  -- it is its entries in bytes
  held-flat : held ≡ flat (list_row_bytes l) (first_entries l rows list)
  unfolding first_entries
  held-flat =
      sym (flat-numbers (list_row_bytes l) rows held size held_low)
      ∙ ap (flat (list_row_bytes l)) (numbers-take (list_row_bytes l) rows (list_row_bytes l * rows) list (omega (arith, at)))
    where
      size : length held ≡ rows * list_row_bytes l
      size = length-take-le (list_row_bytes l * rows) list (omega (arith, at, mul-le-mul_right (list_row_bytes l) C.many, C.list_room)) ∙ at

  small : Below (2 ^ (8 * list_row_bytes l)) (first_entries l rows list)
  unfolding first_entries
  small = numbers-small (list_row_bytes l) rows list C.list_low

  pub held-count : row_count l held ≡ rows
  held-count = ap (row_count l) held-flat ∙ row_count-flat l (first_entries l rows list) ∙ length-firsts l rows list

  pub held-entries : entries_of l held ≡ first_entries l rows list
  held-entries = ap (entries_of l) held-flat ∙ entries-flat l (first_entries l rows list) small

  pub held_rows : rows_of l held ≡ map (vector l) (first_entries l rows list)
  held_rows = ap (rows_of l) held-flat ∙ rows-flat l (first_entries l rows list) small

  pub held_whole : whole_rows l held ≡ true
  held_whole = ap (whole_rows l) held-flat ∙ flat-whole l (first_entries l rows list) (omega (arith, length-firsts l rows list, C.many))

  held-order : orders.in_list_order (entries_of l held) ≡ order_of l rows list
  held-order = unfold order_of in ap orders.in_list_order held-entries

  held-taken : orders.taken l (entries_of l held) (orders.in_list_order (entries_of l held)) ≡ taken_rows l rows list
  unfolding taken_rows order_of
  held-taken = ap (λ (es : List ℕ). orders.taken l es (orders.in_list_order es)) held-entries

  pub current-rank : rank ≡ reading.rank (orders.taken l (entries_of l held) (orders.in_list_order (entries_of l held)))
  current-rank = C.ranked ∙ ap reading.rank (sym held-taken)

  held-holds : Holds l (first_entries l rows list) (order_of l rows list) working
  held-holds =
      others_hold l (first_entries l most_rows list) (order_of l rows list) working C.holds (first_entries l rows list)
      (omega (arith, C.many, length-firsts l rows list, length-firsts l most_rows list))
      (taken_of l rows list rows list (omega arith) refl ∙ sym (taken_of l rows list most_rows list C.many refl))

  pub current_concludes : (n : ℕ) (roles page : List ℕ) → shape n l ≡ true → Below (2 ^ n) (map (constraint l) (map (vector l) (first_entries l rows list)))
      → rows ≤ length roles → n * l ≤ length page → Concludes n l held (orders.in_list_order (entries_of l held)) taken working roles page
  current_concludes n roles page shaped inside roles_room page_room = record {
    ordered = record {
      shaped = shaped;
      rows_whole = held_whole;
      inside = rw held_rows inside;
      bytes = held_low;
      few = omega (arith, C.counted, order-few l rows list, C.many);
      whole = omega (arith, C.size);
      stands = C.order ∙ sym held-order;
      arrivals = listed_below l held;
      distinct = listed-distinct l held;
      roles_room = omega (arith, held-count);
      page_room = page_room;
    };
    low = C.low;
    holds = rw (held-order, held-entries) held-holds;
  }
