-- What a state tells once an arrival is written in its order: that arrival stands there, and all before the order and the filter behind it are as they were.
-- Assumes nothing.
use mathlib.Core.Path.{◌≡◌, ap, ◌∙◌}
use mathlib.Core.Bool.{true, ◌&&◌}
use mathlib.Core.List.{List, [], ◌∷◌, ◌++◌}
use Prim.Native.Nat.{ℕ, ◌+◌, ◌*◌, ◌≤◌, ◌<◌}
use native.Mathlib.Numerals.{add-one}
use native.Mathlib.Omega.{arith}
use lib.Dec.{leb, ltb}
use lib.ListN.{length, take, drop, set}
use borrow.Author.Tests.{leb-true, ltb-true}
use Rattle.space.proofs.Both.{both}
use Rattle.octets.specs.Octets.{bytes, lay}
use Rattle.octets.proofs.Numbers.{length-bytes}
use Rattle.octets.proofs.Lay.{length-lay, take-before, part-after}
use Rattle.filter.specs.Filter.{filter_bytes}
use Rattle.state.specs.Layout.{order_at, filter_at, state_bytes, order_in, filter_in}
use Rattle.noting.specs.Noting.{orders, ordered_state}
use Rattle.state.proofs.Sizes.{sizes}
use Rattle.noting.proofs.Fits.{ordered_is}
use Rattle.views.proofs.Laid.{unless, pairs_set, set_last}

pub ordered-order : (i m n : ℕ) (state : List ℕ) → i < n → n ≤ 512 → m < 512 → state_bytes ≤ length state → order_in n (ordered_state i m state) ≡ set (order_in n state) i m
unfolding order_in
ordered-order i m n state h l k whole = rw (ordered_is i m state (omega arith) k whole) (pairs_set order_at n i m state (omega arith) h (omega (arith, sizes)))

-- behind those that stand there
pub ordered-more : (i m : ℕ) (state : List ℕ) → i < 512 → m < 512 → state_bytes ≤ length state → order_in (i + 1) (ordered_state i m state) ≡ order_in i state ++ (m ∷ [])
ordered-more i m state h k whole =
    ordered-order i m (i + 1) state (omega arith) (omega arith) k whole ∙ ap (λ (n : ℕ). set (order_in n state) i m) (add-one i) ∙ unfold order_in in set_last i m (drop order_at state)

module _ (i m : ℕ) (state : List ℕ) where
  -- the arrival lies before the filter, and within the state
  room : orders i m (length state) ≡ true → (order_at + 2 * i + length (bytes 2 m) ≤ filter_at) × (order_at + 2 * i + length (bytes 2 m) ≤ length state)
  unfolding orders
  room e =
      let a : (ltb i 512 ≡ true) × ((ltb m 512 && leb state_bytes (length state)) ≡ true) = both _ _ e in
      let b : (ltb m 512 ≡ true) × (leb state_bytes (length state) ≡ true) = both _ _ a.1 in
      let before : order_at + 2 * i + length (bytes 2 m) ≤ filter_at = omega (arith, sizes, length-bytes 2 m, ltb-true i 512 a.0) in
      (before, omega (arith, sizes, leb-true state_bytes (length state) b.1))

  abbrev after : List ℕ
  after = lay (order_at + 2 * i) (bytes 2 m) state

  pub ordered-length : length (ordered_state i m state) ≡ length state
  unfolding ordered_state
  ordered-length = unless length (orders i m (length state)) after state (λ e. length-lay (order_at + 2 * i) (bytes 2 m) state (room e).1)

  pub ordered-before : take order_at (ordered_state i m state) ≡ take order_at state
  unfolding ordered_state
  ordered-before =
      unless (take order_at) (orders i m (length state)) after state (λ e. take-before order_at (order_at + 2 * i) (bytes 2 m) state (omega arith) (omega (arith, (room e).1)))

  pub ordered_filter : filter_in (ordered_state i m state) ≡ filter_in state
  unfolding ordered_state filter_in
  ordered_filter =
      unless filter_in (orders i m (length state)) after state (λ e. part-after filter_at filter_bytes (order_at + 2 * i) (bytes 2 m) state (room e).0 (omega (arith, (room e).1)))
