-- Whether a row is taken for a repeat, and the store with its seed noted: by the test that the code makes; and noting leaves the list.
-- Assumes nothing.
use mathlib.Core.Path.{◌≡◌, refl, ◌∙◌}
use mathlib.Core.Bool.{Bool, false, ◌&&◌}
use mathlib.Core.List.{List}
use Prim.Native.Nat.{ℕ, ◌≤◌, ◌<◌}
use lib.ListN.{length}
use borrow.Author.Tests.{le-leb, lt-leb}
use Rattle.repeats.specs.Repeats.{repeated}
use Rattle.noting.specs.Noting.{noted_in, noted_state}
use Rattle.noting.proofs.Lengths.{noted-length}
use Rattle.store.specs.Store.{store_bytes, is_store, list_in, working_in, with_working}
use Rattle.store.proofs.Back.{length-working, working-list}
use Rattle.noticing.specs.Noticing.{seed_in, is_repeat, noticed}

module _ (l arrival : ℕ) (store : List ℕ) where
  pub too_short : length store < store_bytes → (false ≡ is_repeat l arrival store) × (store ≡ noticed l arrival store)
  unfolding is_repeat noticed is_store
  too_short h = rw (lt-leb store_bytes (length store) h) (refl, refl)

  module _ (long : store_bytes ≤ length store) where
    abbrev after : List ℕ
    after = with_working (noted_state (seed_in l arrival store) (working_in store)) store

    pub noticed_is : noticed l arrival store ≡ after
    unfolding noticed is_store
    noticed_is = rw (le-leb store_bytes (length store) long)

    pub repeat_is : (b : Bool) → noted_in (seed_in l arrival store) (working_in store) ≡ b → is_repeat l arrival store ≡ (b && repeated l arrival (list_in store))
    unfolding is_repeat is_store
    repeat_is b e = rw (le-leb store_bytes (length store) long, e)

    -- the list is as it was
    pub noted-list : list_in after ≡ list_in store
    noted-list =
        working-list (noted_state (seed_in l arrival store) (working_in store)) store (noted-length (seed_in l arrival store) (working_in store) ∙ length-working store long) long
