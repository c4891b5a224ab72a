-- A part of a store, by the test that the code makes, and the two parts.
-- Assumes nothing.
use mathlib.Core.Path.{◌≡◌}
use mathlib.Core.Bool.{true}
use mathlib.Core.List.{List}
use Prim.Native.Nat.{ℕ, ◌≤◌}
use lib.ListN.{length, take, drop}
use borrow.Author.Tests.{le-leb}
use Rattle.state.specs.Layout.{state_bytes}
use Rattle.store.specs.Store.{store_bytes, list_at, working_at, list_room, is_store, part_start, part_in, list_in, working_in}

module _ (store : List ℕ) (long : store_bytes ≤ length store) where
  pub is_store_lem : is_store store ≡ true
  unfolding is_store
  is_store_lem = le-leb store_bytes (length store) long

  pub part_in_lem : (at size : ℕ) → part_in at size store ≡ take size (drop at store)
  unfolding part_in part_start
  part_in_lem at size = rw is_store_lem

  pub list_in_lem : list_in store ≡ take list_room (drop list_at store)
  unfolding list_in
  list_in_lem = part_in_lem list_at list_room

  pub working_in_lem : working_in store ≡ take state_bytes (drop working_at store)
  unfolding working_in
  working_in_lem = part_in_lem working_at state_bytes
