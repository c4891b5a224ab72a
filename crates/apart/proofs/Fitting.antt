-- When entries can be gathered, and that then all are.
-- Assumes nothing.
use mathlib.Core.Path.{◌≡◌, sym}
use mathlib.Core.Bool.{true, false, ◌&&◌}
use mathlib.Core.List.{List}
use Prim.Native.Nat.{ℕ, ◌/◌, ◌≤◌}
use lib.Dec.{leb}
use lib.ListN.{length}
use borrow.Author.Tests.{leb-true, le-leb}
use Rattle.space.proofs.Both.{both}
use Rattle.rows.specs.Rows.{list_row_bytes, row_count, entries_of}
use Rattle.rows.specs.Bytes.{cut}
use Rattle.apart.specs.Apart.{apart, gathers, gathered, gatherable, gathered_from}

pub record Gatherable (l list room : ℕ) : Type 0 where
  pub low : 1 ≤ l
  pub high : l ≤ 32
  pub few : list / list_row_bytes l ≤ 512
  pub long : list ≤ room

pub fits_so : (l list room : ℕ) → gatherable l list room ≡ true → Gatherable l list room
unfolding gatherable
fits_so l list room e =
    let halves = both (leb 1 l && leb l 32) (leb (list / list_row_bytes l) 512 && leb list room) e in
    let of-l = both (leb 1 l) (leb l 32) halves.0 in
    let of-list = both (leb (list / list_row_bytes l) 512) (leb list room) halves.1 in
    record { low = leb-true 1 l of-l.0; high = leb-true l 32 of-l.1; few = leb-true (list / list_row_bytes l) 512 of-list.0; long = leb-true list room of-list.1 }

module _ (l : ℕ) (list page room : List ℕ) where
  pub fits_not : gatherable l (length list) (length room) ≡ false → gathers 0 room ≡ gathered_from l list page room
  unfolding gathered_from
  fits_not e = rw e

  pub fits_all : gatherable l (length list) (length room) ≡ true → gathered l (apart l (cut l page) (entries_of l list)) room ≡ gathered_from l list page room
  unfolding gathered_from
  fits_all e = rw e

  -- in the words of the list
  pub gathers-all : 1 ≤ l → l ≤ 32 → row_count l list ≤ 512 → length list ≤ length room → gathered_from l list page room ≡ gathered l (apart l (cut l page) (entries_of l list)) room
  unfolding gatherable row_count
  gathers-all low high few long = sym (fits_all (rw (le-leb 1 l low, le-leb l 32 high, le-leb (length list / list_row_bytes l) 512 few, le-leb (length list) (length room) long)))
