-- What is promised of a call on any bytes, whether a store was opened there or not. Document 02, wish 5: "The promise speaks of stores made by opening and
-- these calls; other bytes get only memory safety, the header check and an end".
use Rattle.std.specs.Prelude.{ℕ, ◌*◌, ◌≡◌, List, length, drop}
use Rattle.reading.specs.Outcome.{Lent, scratch_bytes}
use Rattle.store.specs.Store.{n_in, l_in, rows_in}

-- A buffer in which no byte changed but some of the first k.
pub record Within (k : ℕ) (before after : List ℕ) : Type 0 where
  pub long : length after ≡ length before
  pub behind : drop k after ≡ drop k before

-- The lent buffers changed only where a reading of as many rows as the header says, of its n and L, writes them.
pub record WithinLent (store : List ℕ) (before after : Lent) : Type 0 where
  pub page : Within (n_in store * l_in store) before.page after.page
  pub uses : Within (2 * rows_in store) before.uses after.uses
  pub roles : Within (rows_in store) before.roles after.roles
  pub scratch : Within scratch_bytes before.scratch after.scratch
