-- A working that is current stays so with one row more: where the row repeats an earlier one its seed is noted, and where it counts its arrival is written
-- behind the others and its row is taken in. The entries before it stay, so the state holds of the longer list what it held.
-- Assumes nothing.
use mathlib.Core.Path.{◌≡◌, refl, sym, ap, ap₂, ◌∙◌}
use mathlib.Core.Bool.{Bool, true, false, cond, ◌&&◌}
use mathlib.Core.List.{List, [], ◌∷◌, ◌++◌, append-nil}
use Prim.Native.Nat.{ℕ, ◌+◌, ◌*◌, ◌≤◌, ◌<◌}
use native.Mathlib.Omega.{arith}
use lib.ListN.{length, get_or, length-append}
use Rattle.space.specs.Lists.{Below}
use Rattle.octets.specs.Octets.{number, lay}
use Rattle.words.specs.Words.{four_of}
use Rattle.places.specs.Places.{most_rows}
use Rattle.filter.specs.Filter.{noted, note}
use Rattle.rows.specs.Rows.{row_bytes, list_row_bytes, seed, vector}
use Rattle.lists.specs.Lists.{entry_at, row_at}
use Rattle.reading.specs.Reading as reading
use Rattle.reading.specs.Orders as orders
use Rattle.reading.proofs.Listed.{listed-snoc}
use Rattle.reading.proofs.KeptPlaces.{taken-snoc}
use Rattle.repeats.specs.Repeats.{repeated}
use Rattle.state.specs.Layout.{state_bytes, order_in, filter_in}
use Rattle.noting.specs.Noting.{ordered_state, noted_in, noted_state}
use Rattle.noting.proofs.Fits.{noted_is}
use Rattle.views.proofs.Ordered.{ordered-more, ordered-length, ordered-before, ordered_filter}
use Rattle.noting.proofs.Lengths.{noted-length}
use Rattle.views.proofs.Noted.{noted_filter, noted-before, noted-order}
use Rattle.order.specs.Listed.{seeds_noted}
use Rattle.order.proofs.Seeds.{seeds-more}
use Rattle.absorb.specs.Absorbing.{Absorption, absorption}
use Rattle.echelon.specs.Eliminating.{rank_after}
use Rattle.echelon.proofs.Staying.{absorbed_order, absorbed_filter, absorbed_length}
use Rattle.holding.specs.Holds.{Holds, Offer}
use Rattle.holding.proofs.Once.{distinct-new}
use Rattle.holding.proofs.Holding.{absorbed_answer, absorbed_holds}
use Rattle.holding.proofs.EachHolds.{rank-after}
use Rattle.holding.proofs.Others.{others_hold, alike_holds}
use Rattle.concluding.proofs.Bytes.{absorbed_low, ordered_low, noted_low}
use Rattle.newest.specs.Newest.{admission}
use Rattle.current.specs.Current.{first_entries, order_of, taken_rows, Current}
use Rattle.current.proofs.Firsts.{length-firsts, order-few, order-once, taken_of}
use Rattle.current.proofs.Longer.{longer-length, longer_low, firsts_stay, firsts_more, entry_at_lem, longer-row-length, longer-row, longer-seed, longer-repeats, longer-new}

module _ (l : ℕ) (list : List ℕ) (rows taken rank : ℕ) (working entry : List ℕ) (C : Current l list rows taken rank working) (more : rows < most_rows)
    (long : length entry ≡ list_row_bytes l) (low : Below 256 entry) where
  abbrev next : List ℕ
  next = lay (list_row_bytes l * rows) entry list

  abbrev firsts : List ℕ
  firsts = first_entries l rows list

  abbrev order : List ℕ
  order = order_of l rows list

  whole : state_bytes ≤ length working
  whole = omega (arith, C.size)

  -- ---- what is read of the entry

  pub seed-read : four_of (entry_at l rows next) ≡ seed l (number entry)
  seed-read = longer-seed l rows entry list C.list_room more long low C.list_low

  abbrev s : ℕ
  s = four_of (entry_at l rows next)

  pub repeat_told : (noted_in s working && repeated l rows next) ≡ orders.among firsts (number entry)
  repeat_told = go (noted_in s working) refl ∙ longer-repeats l rows entry list C.list_room more long
    where
      go : (b : Bool) → noted_in s working ≡ b → (b && repeated l rows next) ≡ repeated l rows next
      go true e = refl
      go false e =
          sym (longer-new l rows entry list C.list_room more long
          (ap₂ (λ (x : ℕ) (f : List ℕ). noted x f) (sym seed-read) (sym C.seeds) ∙ sym (noted_is s working whole).0 ∙ e))

  -- ---- the list with it

  pub next-entries : first_entries l (rows + 1) next ≡ firsts ++ (number entry ∷ [])
  next-entries = firsts_more l rows entry list C.list_room more long

  next-length : length next ≡ length list
  next-length = longer-length l rows entry list C.list_room more long

  next_low : Below 256 next
  next_low = longer_low l rows entry list C.list_room more long low C.list_low

  stay : first_entries l rows next ≡ firsts
  stay = firsts_stay l rows entry list C.list_room more long

  next-order : (b : Bool) → (noted_in s working && repeated l rows next) ≡ b → order_of l (rows + 1) next ≡ order ++ cond b [] (rows ∷ [])
  unfolding order_of
  next-order b e =
      ap orders.in_list_order next-entries ∙ listed-snoc firsts (number entry)
      ∙ ap₂ (λ (c : Bool) (n : ℕ). orders.in_list_order firsts ++ cond c [] (n ∷ [])) (sym repeat_told ∙ e) (length-firsts l rows list)

  few : taken ≤ rows
  few = omega (arith, C.counted, order-few l rows list)

  -- ---- the working with its seed noted

  abbrev seen : List ℕ
  seen = noted_state s working

  seen-length : length seen ≡ state_bytes
  seen-length = noted-length s working ∙ C.size

  seen_low : Below 256 seen
  seen_low = noted_low s working C.low

  seen-order : order_in taken seen ≡ order
  seen-order = noted-order s working taken (omega (arith, few)) ∙ C.order

  seen-seeds : filter_in seen ≡ seeds_noted l (first_entries l (rows + 1) next)
  seen-seeds =
      noted_filter s working whole ∙ ap₂ (λ (x : ℕ) (f : List ℕ). note x f) seed-read C.seeds
      ∙ sym (ap (seeds_noted l) next-entries ∙ seeds-more l firsts (number entry))

  abbrev all : List ℕ
  all = first_entries l most_rows next

  all-taken : orders.taken l all order ≡ taken_rows l rows list
  all-taken = taken_of l rows list most_rows next (omega arith) stay

  seen-holds : Holds l all order seen
  seen-holds =
      let size : length all ≤ length (first_entries l most_rows list) = omega (arith, length-firsts l most_rows next, length-firsts l most_rows list) in
      let same : orders.taken l all order ≡ orders.taken l (first_entries l most_rows list) order = all-taken ∙ sym (taken_of l rows list most_rows list (omega arith) refl) in
      alike_holds l all order working (others_hold l (first_entries l most_rows list) order working C.holds all size same) seen (noted-length s working) (noted-before s working)

  -- ---- a repeat

  same_rows : order_of l (rows + 1) next ≡ order → taken_rows l (rows + 1) next ≡ taken_rows l rows list
  unfolding taken_rows
  same_rows same = ap (orders.taken l (first_entries l (rows + 1) next)) same ∙ taken_of l rows list (rows + 1) next (omega arith) stay

  pub current_repeat : (noted_in s working && repeated l rows next) ≡ true → Current l next (rows + 1) taken rank seen
  current_repeat e =
      let same : order_of l (rows + 1) next ≡ order = next-order true e ∙ append-nil order in
      record {
        list_room = omega (arith, C.list_room, next-length);
        list_low = next_low;
        many = omega arith;
        size = seen-length;
        low = seen_low;
        counted = C.counted ∙ sym (ap length same);
        ranked = C.ranked ∙ ap reading.rank (sym (same_rows same));
        order = seen-order ∙ sym same;
        seeds = seen-seeds;
        holds = rw same seen-holds;
      }

  -- ---- a row that counts

  abbrev ordered : List ℕ
  ordered = ordered_state taken rows seen

  abbrev a : Absorption
  a = admission (row_at l rows next) rows taken rank seen

  module _ (e : (noted_in s working && repeated l rows next) ≡ false) where
    one_more_lem : order_of l (rows + 1) next ≡ order ++ (rows ∷ [])
    one_more_lem = next-order false e

    new : orders.among order rows ≡ false
    new = distinct-new order [] rows (rw one_more_lem at (order-once l (rows + 1) next))

    O : Offer l all order rows ordered
    O = record {
      holds = alike_holds l all order seen seen-holds ordered (ordered-length taken rows seen) (ordered-before taken rows seen);
      more = omega (arith, order-few l rows list);
      inside = omega (arith, length-firsts l most_rows next);
      new = new;
    }

    abbrev row : ℕ
    row = vector l (get_or all rows 0)

    abbrev before : List ℕ
    before = orders.taken l all order

    rank_is : rank ≡ reading.rank before
    rank_is = C.ranked ∙ ap reading.rank (sym all-taken)

    row_is : number (row_at l rows next) ≡ row
    row_is =
        longer-row l rows entry list C.list_room more long low C.list_low ∙ ap (vector l) (sym (entry_at_lem l rows entry list C.list_room more long most_rows more))

    -- what is taken in is that row, of as many bytes, after so many kept ones
    a_is : a ≡ absorption (row_bytes l) row rows (reading.rank before) ordered
    unfolding admission
    a_is =
        rw (longer-row-length l rows entry list C.list_room more long) (ap₂ (λ (x r : ℕ). absorption (row_bytes l) x rows r ordered) row_is rank_is)

    rows-after : taken_rows l (rows + 1) next ≡ before ++ (row ∷ [])
    rows-after =
        sym (taken_of l (rows + 1) next most_rows next (omega arith) refl) ∙ ap (orders.taken l all) one_more_lem ∙ taken-snoc l all order rows

    pub current-taken : Current l next (rows + 1) (taken + 1) (rank_after a.answer rank) a.state
    current-taken = rw a_is (record {
      list_room = omega (arith, C.list_room, next-length);
      list_low = next_low;
      many = omega arith;
      size = absorbed_length (row_bytes l) row rows (reading.rank before) ordered ∙ ordered-length taken rows seen ∙ seen-length;
      low = absorbed_low (row_bytes l) row rows (reading.rank before) ordered (ordered_low taken rows seen seen_low);
      counted = sym (ap length one_more_lem ∙ length-append order (rows ∷ []) ∙ ap (λ (n : ℕ). n + 1) (sym C.counted));
      ranked = ap₂ (λ o (r : ℕ). rank_after o r) (absorbed_answer O) rank_is ∙ rank-after before row ∙ ap reading.rank (sym rows-after);
      order = absorbed_order (row_bytes l) row rows (reading.rank before) ordered (taken + 1)
          ∙ ordered-more taken rows seen (omega (arith, few)) more (omega (arith, seen-length)) ∙ ap (λ (o : List ℕ). o ++ (rows ∷ [])) seen-order ∙ sym one_more_lem;
      seeds = absorbed_filter (row_bytes l) row rows (reading.rank before) ordered ∙ ordered_filter taken rows seen ∙ seen-seeds;
      holds = rw one_more_lem (absorbed_holds O);
    })
