-- A store whose working and three counts are written anew is whole, if that working is current for its list: the counts fit two bytes, and all else
-- stays.
-- Assumes nothing.
use mathlib.Core.Path.{◌≡◌, ap, ◌∙◌}
use Prim.Native.Nat.{ℕ, ◌^◌, ◌≤◌, ◌<◌}
use native.Mathlib.Omega.{arith}
use mathlib.Core.Bool.{true}
use mathlib.Core.List.{List, map}
use lib.ListN.{length, get_or, length-map}
use Rattle.space.specs.Lists.{Below}
use Rattle.space.proofs.Lists.{marked_le}
use Rattle.places.specs.Places.{most_rows}
use Rattle.rows.specs.Rows.{shape, vector, constraint}
use Rattle.reading.specs.Reading.{rank, kept}
use Rattle.reading.specs.Orders.{taken}
use Rattle.reading.proofs.Ranks.{rank-marked}
use Rattle.reading.proofs.Kept.{length-kept}
use Rattle.store.specs.declared.Head.{Head}
use Rattle.store.specs.Store.{store_bytes, list_in, with_working}
use Rattle.store.specs.Header.{head_in}
use Rattle.newest.specs.Newest.{counted_in}
use Rattle.current.specs.Current.{first_entries, order_of, taken_rows, Current}
use Rattle.whole.specs.Whole.{Whole}
use Rattle.store.proofs.Back.{working-long, working-working, working-list}
use Rattle.whole.proofs.Parts.{working-head, counted-long, counted-list, counted-working, counted-head}

-- the two counts of a current working fit two bytes
rank_most : (rows : List ℕ) → rank rows ≤ length rows
rank_most rows = omega (arith, rank-marked rows, marked_le (kept rows), length-kept rows)

module _ (l : ℕ) (list : List ℕ) (rows t r : ℕ) (working : List ℕ) (C : Current l list rows t r working) where
  taken-most : t ≤ most_rows
  taken-most = omega (arith, C.counted, C.holds.few)

  ranked-most : r ≤ t
  unfolding taken_rows taken
  ranked-most = omega (arith, C.ranked, C.counted, rank_most (taken_rows l rows list), length-map (order_of l rows list) (λ arrival. vector l (get_or (first_entries l rows list) arrival 0)))

-- ---- written anew

module _ (page n l : ℕ) (s : shape n l ≡ true) (list : List ℕ) (rows t r : ℕ) (working : List ℕ) (C : Current l list rows t r working)
    (inside : Below (2 ^ n) (map (constraint l) (map (vector l) (first_entries l rows list)))) (store : List ℕ) (long : store_bytes ≤ length store)
    (h : Head) (head_is : head_in store ≡ h) (page_is : h.page ≡ page) (n_is : h.n ≡ n) (l_is : h.l ≡ l) (list_is : list_in store ≡ list) where
  abbrev before : List ℕ
  before = with_working working store

  before-long : store_bytes ≤ length before
  before-long = omega (arith, working-long working store C.size long)

  rows_low : rows < 65536
  rows_low = omega (arith, C.many)

  taken_low : t < 65536
  taken_low = omega (arith, taken-most l list rows t r working C)

  rank_low : r < 65536
  rank_low = omega (arith, taken-most l list rows t r working C, ranked-most l list rows t r working C)

  abbrev now : List ℕ
  now = counted_in rows t r before

  now-long : store_bytes ≤ length now
  now-long = omega (arith, before-long, counted-long rows t r before before-long)

  now-head : head_in now ≡ record { page = page; n = n; l = l; rows = rows; taken = t; rank = r }
  unfolding head_in
  now-head =
      let same : head_in before ≡ h = working-head working store C.size long ∙ head_is in
      counted-head rows t r before before-long rows_low taken_low rank_low
      ∙ rw (ap (λ (x : Head). x.page) same ∙ page_is, ap (λ (x : Head). x.n) same ∙ n_is, ap (λ (x : Head). x.l) same ∙ l_is)

  pub written-whole : Whole page n l (record { list = list; rows = rows }) (counted_in rows t r (with_working working store))
  unfolding head_in
  written-whole = record {
    long = now-long;
    shaped = s;
    page_is = ap (λ (x : Head). x.page) now-head;
    n_is = ap (λ (x : Head). x.n) now-head;
    l_is = ap (λ (x : Head). x.l) now-head;
    rows_are = ap (λ (x : Head). x.rows) now-head;
    list_is = counted-list rows t r before before-long ∙ working-list working store C.size long ∙ list_is;
    inside = inside;
    current =
        rw (
          ap (λ (x : Head). x.taken) now-head,
          ap (λ (x : Head). x.rank) now-head,
          counted-working rows t r before before-long ∙ working-working working store C.size long,
        ) C;
  }
