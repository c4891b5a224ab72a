-- A seed noted leaves the filter as long as it was, and the state.
-- Assumes nothing.
use mathlib.Core.Path.{◌≡◌, refl, ◌∙◌}
use mathlib.Core.Bool.{Bool, true, false, cond}
use mathlib.Core.List.{List}
use Prim.Native.Nat.{ℕ, ◌≤◌}
use native.Mathlib.Omega.{arith}
use lib.Dec.{leb}
use lib.ListN.{length}
use borrow.Author.Tests.{leb-true}
use Rattle.octets.specs.Octets.{lay}
use Rattle.octets.proofs.Lay.{length-lay}
use Rattle.octets.proofs.Views.{length_part}
use Rattle.filter.specs.Filter.{filter_bytes, note}
use Rattle.filter.proofs.Noted.{length-note}
use Rattle.state.specs.Layout.{filter_at, state_bytes, filter_in}
use Rattle.state.proofs.Sizes.{sizes}
use Rattle.noting.specs.Noting.{noted_state}

module _ (seed : ℕ) (state : List ℕ) where
  pub filter_length : state_bytes ≤ length state → length (note seed (filter_in state)) ≡ filter_bytes
  unfolding filter_in
  filter_length whole = length-note seed (filter_in state) ∙ length_part filter_bytes filter_at state (omega (arith, sizes))

  pub noted-length : length (noted_state seed state) ≡ length state
  unfolding noted_state
  noted-length = go (leb state_bytes (length state)) refl
    where
      go : (b : Bool) → leb state_bytes (length state) ≡ b → length (cond b (lay filter_at (note seed (filter_in state)) state) state) ≡ length state
      go true e =
          let whole : state_bytes ≤ length state = leb-true state_bytes (length state) e in
          length-lay filter_at (note seed (filter_in state)) state (omega (arith, sizes, filter_length whole))
      go false e = refl
