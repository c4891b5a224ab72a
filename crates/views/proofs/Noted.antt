-- What a state tells once a seed is noted in its filter: the filter has it, and all before it is as it was.
-- Assumes nothing.
use mathlib.Core.Path.{◌≡◌, ap, ◌∙◌}
use mathlib.Core.Bool.{true}
use mathlib.Core.List.{List}
use Prim.Native.Nat.{ℕ, ◌+◌, ◌≤◌}
use native.Mathlib.Omega.{arith}
use lib.Dec.{leb}
use lib.ListN.{length, take}
use borrow.Author.Tests.{leb-true}
use Rattle.octets.specs.Octets.{lay}
use Rattle.octets.proofs.Lay.{take-before, part-lay}
use Rattle.filter.specs.Filter.{filter_bytes, note}
use Rattle.state.specs.Layout.{order_at, filter_at, state_bytes, order_in, filter_in}
use Rattle.noting.specs.Noting.{noted_state}
use Rattle.state.proofs.Sizes.{sizes}
use Rattle.noting.proofs.Fits.{noted_is}
use Rattle.noting.proofs.Lengths.{filter_length}
use Rattle.views.proofs.Laid.{unless, pairs-before}

module _ (seed : ℕ) (state : List ℕ) where
  abbrev new : List ℕ
  new = note seed (filter_in state)

  abbrev after : List ℕ
  after = lay filter_at new state

  fits : leb state_bytes (length state) ≡ true → filter_at + length new ≤ length state
  fits e =
      let whole : state_bytes ≤ length state = leb-true state_bytes (length state) e in
      omega (arith, sizes, filter_length seed state whole)

  pub noted_filter : state_bytes ≤ length state → filter_in (noted_state seed state) ≡ note seed (filter_in state)
  noted_filter whole = ap filter_in (noted_is seed state whole).1 ∙ unfold filter_in in part-lay filter_at filter_bytes new state (filter_length seed state whole) (omega (arith, sizes))

  -- ---- whether or not it fits

  pub noted-before : take order_at (noted_state seed state) ≡ take order_at state
  unfolding noted_state
  noted-before = unless (take order_at) (leb state_bytes (length state)) after state (λ e. take-before order_at filter_at new state (omega (arith, sizes)) (omega (arith, fits e)))

  pub noted-order : (n : ℕ) → n ≤ 512 → order_in n (noted_state seed state) ≡ order_in n state
  unfolding noted_state order_in
  noted-order n h = unless (order_in n) (leb state_bytes (length state)) after state (λ e. pairs-before filter_at new state (fits e) order_at n (omega (arith, sizes)))
