-- What fits `put_arrival`, `forget` and `note`, and the state afterwards where it does.
-- Assumes nothing.
use mathlib.Core.Path.{◌≡◌, refl}
use mathlib.Core.List.{List}
use Prim.Native.Nat.{ℕ, ◌+◌, ◌*◌, ◌≤◌, ◌<◌}
use lib.ListN.{length, replicate}
use borrow.Author.Tests.{le-leb, lt-ltb}
use Rattle.octets.specs.Octets.{bytes, lay}
use Rattle.filter.specs.Filter.{filter_bytes, noted, note}
use Rattle.state.specs.Layout.{order_at, filter_at, state_bytes, filter_in}
use Rattle.noting.specs.Noting.{orders, ordered_state, forgotten, noted_in, noted_state}

-- ---- an arrival of the order

module _ (i m : ℕ) (state : List ℕ) where
  pub ordered_is : i < 512 → m < 512 → state_bytes ≤ length state → ordered_state i m state ≡ lay (order_at + 2 * i) (bytes 2 m) state
  unfolding ordered_state orders
  ordered_is a b h = rw (lt-ltb i 512 a, lt-ltb m 512 b, le-leb state_bytes (length state) h)

-- ---- the filter

module _ (state : List ℕ) where
  pub forgotten_is : state_bytes ≤ length state → forgotten state ≡ lay filter_at (replicate filter_bytes 0) state
  unfolding forgotten
  forgotten_is h = rw (le-leb state_bytes (length state) h)

module _ (seed : ℕ) (state : List ℕ) where
  pub noted_is : state_bytes ≤ length state → (noted_in seed state ≡ noted seed (filter_in state)) × (noted_state seed state ≡ lay filter_at (note seed (filter_in state)) state)
  unfolding noted_in noted_state
  noted_is h = rw (le-leb state_bytes (length state) h) (refl, refl)
