-- What the header of a store shows after one of the parts behind it is written, and after its own numbers are: these are pairs of bytes, of which each is
-- written by itself.
-- Assumes nothing.
use mathlib.Core.Path.{◌≡◌, sym, ap, ◌∙◌}
use mathlib.Core.Logic.{◌≢◌}
use Prim.Native.Nat.{ℕ, ◌+◌, ◌*◌, ◌/◌, ◌%◌, ◌≤◌, ◌<◌}
use native.Mathlib.Nat.{mod-eq_of_lt}
use native.Mathlib.Omega.{arith}
use mathlib.Core.List.{List}
use lib.ListN.{length, take, drop, get_or, set}
use lib.Seq.{take-take, get_or-take, get_or-set_same, get_or-set_other}
use borrow.Author.Tests.{le-leb}
use Rattle.octets.specs.Octets.{number, bytes}
use Rattle.octets.proofs.Numbers.{length-bytes, number-bytes}
use Rattle.octets.proofs.Lay.{length-lay, take-before, drop-after}
use Rattle.octets.proofs.Laid.{numbers-lay}
use Rattle.doubles.specs.Doubles.{pairs_in, pair_at, put_pair}
use Rattle.doubles.proofs.Doubles.{length_pairs, pair_at_lem}
use Rattle.marks.proofs.Written.{pair-laid}
use Rattle.words.specs.Words.{four_of}
use Rattle.state.specs.Layout.{state_bytes}
use Rattle.store.specs.Store.{store_bytes, list_at, working_at, list_room, page_in, n_in, l_in, rows_in, taken_in, rank_in, list_in, working_in, with_list, with_working}
use Rattle.store.specs.Header.{head_in}
use Rattle.store.proofs.Sizes.{sizes}
use Rattle.store.proofs.Parts.{list_in_lem, working_in_lem}
use Rattle.store.proofs.Back.{list-long, working-long}
use Rattle.newest.specs.Newest.{counted_in}

-- ---- the header lies in front of the list

pub page-front : (a : List ℕ) → 4 ≤ length a → page_in a ≡ number (take 4 a)
unfolding page_in four_of
page-front a h = rw (le-leb 4 (length a) h)

-- where the first k bytes are the same
module _ (k : ℕ) (a b : List ℕ) (same : take k a ≡ take k b) where
  byte_same : (i : ℕ) → i < k → get_or a i 0 ≡ get_or b i 0
  byte_same i h = sym (get_or-take k a i 0 h) ∙ ap (λ (t : List ℕ). get_or t i 0) same ∙ get_or-take k b i 0 h

  page_same : 4 ≤ k → 4 ≤ length a → 4 ≤ length b → page_in a ≡ page_in b
  page_same h la lb = page-front a la ∙ ap number (sym (take-take 4 k a h) ∙ ap (take 4) same ∙ take-take 4 k b h) ∙ sym (page-front b lb)

  pair_same : (i : ℕ) → 2 * i + 1 < k → k ≤ length a → k ≤ length b → pair_at i a ≡ pair_at i b
  pair_same i h la lb =
      pair_at_lem a i (omega arith) ∙ rw (byte_same (2 * i) (omega arith), byte_same (2 * i + 1) h) (sym (pair_at_lem b i (omega arith)))

pub head_same : (a b : List ℕ) → take list_at a ≡ take list_at b → list_at ≤ length a → list_at ≤ length b → head_in a ≡ head_in b
unfolding head_in n_in l_in rows_in taken_in rank_in
head_same a b same la lb =
    rw (
      page_same list_at a b same (omega (arith, sizes)) (omega (arith, sizes)) (omega (arith, sizes)),
      byte_same list_at a b same 4 (omega (arith, sizes)),
      byte_same list_at a b same 5 (omega (arith, sizes)),
      pair_same list_at a b same 3 (omega (arith, sizes)) la lb,
      pair_same list_at a b same 4 (omega (arith, sizes)) la lb,
      pair_same list_at a b same 5 (omega (arith, sizes)) la lb,
    )

-- ---- a part written anew leaves the header

module _ (list store : List ℕ) (size : length list ≡ list_room) (long : store_bytes ≤ length store) where
  pub list-head : head_in (with_list list store) ≡ head_in store
  list-head =
      head_same (with_list list store) store (unfold with_list in take-before list_at list_at list store (omega arith) (omega (arith, sizes)))
      (omega (arith, sizes, list-long list store size long)) (omega (arith, sizes))

module _ (working store : List ℕ) (size : length working ≡ state_bytes) (long : store_bytes ≤ length store) where
  pub working-head : head_in (with_working working store) ≡ head_in store
  working-head =
      head_same (with_working working store) store (unfold with_working in take-before list_at working_at working store (omega (arith, sizes)) (omega (arith, sizes)))
      (omega (arith, sizes, working-long working store size long)) (omega (arith, sizes))

-- ---- a number of the header written anew

module _ (i x : ℕ) (bs : List ℕ) (inside : i < length bs / 2) where
  pub put_long : length (put_pair i x bs) ≡ length bs
  put_long = rw (pair-laid i x bs inside) (length-lay (i * 2) (bytes 2 x) bs (omega (arith, length-bytes 2 x)))

  pub put_before : (k : ℕ) → k ≤ i * 2 → take k (put_pair i x bs) ≡ take k bs
  put_before k h = rw (pair-laid i x bs inside) (take-before k (i * 2) (bytes 2 x) bs h (omega arith))

  pub put_behind : (k : ℕ) → i * 2 + 2 ≤ k → drop k (put_pair i x bs) ≡ drop k bs
  put_behind k h = rw (pair-laid i x bs inside) (drop-after k (i * 2) (bytes 2 x) bs (omega (arith, length-bytes 2 x)) (omega arith))

  put_pairs : x < 65536 → pairs_in (put_pair i x bs) ≡ set (pairs_in bs) i x
  put_pairs h =
      rw (put_long, pair-laid i x bs inside) (numbers-lay 2 (length bs / 2) i (bytes 2 x) bs (length-bytes 2 x) inside (omega arith)
      ∙ ap (set (pairs_in bs) i) (number-bytes 2 x h))

  pub put_same : x < 65536 → pair_at i (put_pair i x bs) ≡ x
  put_same h = rw (put_pairs h) (get_or-set_same (pairs_in bs) i x 0 (omega (arith, length_pairs bs)))

  pub put_other : x < 65536 → (j : ℕ) → j ≢ i → pair_at j (put_pair i x bs) ≡ pair_at j bs
  put_other h j apart = rw (put_pairs h) (get_or-set_other (pairs_in bs) i j x 0 apart)

-- ---- all three of them

module _ (x y z : ℕ) (store : List ℕ) (long : store_bytes ≤ length store) where
  abbrev one : List ℕ
  one = put_pair 3 x store

  abbrev two : List ℕ
  two = put_pair 4 y one

  abbrev three : List ℕ
  three = put_pair 5 z two

  one-long : length one ≡ length store
  one-long = put_long 3 x store (omega (arith, sizes))

  two-long : length two ≡ length store
  two-long = put_long 4 y one (omega (arith, sizes, one-long)) ∙ one-long

  three-long : length three ≡ length store
  three-long = put_long 5 z two (omega (arith, sizes, two-long)) ∙ two-long

  three-front : take 6 three ≡ take 6 store
  three-front =
      put_before 5 z two (omega (arith, sizes, two-long)) 6 (omega arith) ∙ put_before 4 y one (omega (arith, sizes, one-long)) 6 (omega arith)
      ∙ put_before 3 x store (omega (arith, sizes)) 6 (omega arith)

  three-behind : (k : ℕ) → 12 ≤ k → drop k three ≡ drop k store
  three-behind k h =
      put_behind 5 z two (omega (arith, sizes, two-long)) k (omega arith) ∙ put_behind 4 y one (omega (arith, sizes, one-long)) k (omega arith)
      ∙ put_behind 3 x store (omega (arith, sizes)) k (omega arith)

  three-pairs : x < 65536 → y < 65536 → z < 65536 → (pair_at 3 three ≡ x) × (pair_at 4 three ≡ y) × (pair_at 5 three ≡ z)
  three-pairs hx hy hz = (
    put_other 5 z two (omega (arith, sizes, two-long)) hz 3 (omega arith) ∙ put_other 4 y one (omega (arith, sizes, one-long)) hy 3 (omega arith)
        ∙ put_same 3 x store (omega (arith, sizes)) hx,
    put_other 5 z two (omega (arith, sizes, two-long)) hz 4 (omega arith) ∙ put_same 4 y one (omega (arith, sizes, one-long)) hy,
    put_same 5 z two (omega (arith, sizes, two-long)) hz,
  )

module _ (rows taken rank : ℕ) (store : List ℕ) (long : store_bytes ≤ length store) where
  pub counted-long : length (counted_in rows taken rank store) ≡ length store
  unfolding counted_in
  counted-long = three-long (rows % 65536) (taken % 65536) (rank % 65536) store long

  pub counted-behind : (k : ℕ) → 12 ≤ k → drop k (counted_in rows taken rank store) ≡ drop k store
  unfolding counted_in
  counted-behind k h = three-behind (rows % 65536) (taken % 65536) (rank % 65536) store long k h

  counted_store : store_bytes ≤ length (counted_in rows taken rank store)
  counted_store = omega (arith, counted-long)

  pub counted-list : list_in (counted_in rows taken rank store) ≡ list_in store
  counted-list = list_in_lem (counted_in rows taken rank store) counted_store ∙ ap (take list_room) (counted-behind list_at (omega (arith, sizes))) ∙ sym (list_in_lem store long)

  pub counted-working : working_in (counted_in rows taken rank store) ≡ working_in store
  counted-working = working_in_lem (counted_in rows taken rank store) counted_store ∙ ap (take state_bytes) (counted-behind working_at (omega (arith, sizes))) ∙ sym (working_in_lem store long)

  -- numbers of two bytes are read as they were written
  pub counted-head : rows < 65536 → taken < 65536 → rank < 65536
      → head_in (counted_in rows taken rank store) ≡ record { page = page_in store; n = n_in store; l = l_in store; rows = rows; taken = taken; rank = rank }
  unfolding head_in n_in l_in rows_in taken_in rank_in counted_in
  counted-head hr ht hk =
      let now = three rows taken rank store long in
      let front : take 6 now ≡ take 6 store = three-front rows taken rank store long in
      let pairs = three-pairs rows taken rank store long hr ht hk in
      rw (mod-eq_of_lt hr, mod-eq_of_lt ht, mod-eq_of_lt hk)
      (rw (
        page_same 6 now store front (omega arith) (omega (arith, sizes, three-long rows taken rank store long)) (omega (arith, sizes)),
        byte_same 6 now store front 4 (omega arith),
        byte_same 6 now store front 5 (omega arith),
        pairs.0,
        pairs.1,
        pairs.2,
      ))
