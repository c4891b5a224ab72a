-- What neither keeping nor counting a row changes, absorbing does not change: the order, the filter behind it, and how long the state is.
-- Assumes nothing.
use mathlib.Core.Path.{◌≡◌, refl}
use mathlib.Core.Bool.{Bool, true, false, cond}
use mathlib.Core.List.{List}
use Prim.Native.Nat.{ℕ, ◌*◌}
use lib.Dec.{ltb}
use lib.ListN.{length, drop}
use Rattle.basis.specs.Algorithm2.{Pass}
use Rattle.tally.specs.Tally.{most_kept}
use Rattle.state.specs.Layout.{order_at, order_in, filter_in}
use Rattle.keeping.specs.Keeping.{kept_state}
use Rattle.counting.specs.Counting.{counted_state}
use Rattle.views.proofs.Alike.{order_alike, filter_alike}
use Rattle.views.proofs.KeptRow.{kept-length, kept-behind}
use Rattle.views.proofs.CountedRow.{counted-length, counted-behind}
use Rattle.absorb.specs.declared.Absorbed.TheVariants.{Misfit}
use Rattle.absorb.specs.Absorbing.{Absorption, absorbed_as, pass_in, taken, takes, absorption}

module _ {A : Type 0} (tells : List ℕ → A) (m r : ℕ) (state : List ℕ) (kept : (t : ℕ) (vector : List ℕ) → tells (kept_state t vector m r state) ≡ tells state)
    (counted : (tail : List ℕ) → tells (counted_state tail m r state) ≡ tells state) where
  either : (a : Bool) (x y : Absorption) → tells x.state ≡ tells state → tells y.state ≡ tells state → tells (cond a x y).state ≡ tells state
  either true x y e f = e
  either false x y e f = f

  taken-stays : (key : ℕ) (p : Pass) → tells (taken key p m r state).state ≡ tells state
  unfolding taken
  taken-stays key p = either (ltb p.stop (8 * key)) _ _ (either (ltb r most_kept) _ (absorbed_as Misfit state) (kept p.stop _) refl) (counted _)

  absorbed_stays : (key row : ℕ) → tells (absorption key row m r state).state ≡ tells state
  unfolding absorption
  absorbed_stays key row = either (takes key m r (length state)) _ (absorbed_as Misfit state) (taken-stays key (pass_in key row state)) refl

module _ (key row m r : ℕ) (state : List ℕ) where
  absorbed_behind : drop order_at (absorption key row m r state).state ≡ drop order_at state
  absorbed_behind = absorbed_stays (drop order_at) m r state (λ t vector. kept-behind t vector m r state) (λ tail. counted-behind tail m r state) key row

  pub absorbed_order : (n : ℕ) → order_in n (absorption key row m r state).state ≡ order_in n state
  absorbed_order n = order_alike (absorption key row m r state).state state absorbed_behind n

  pub absorbed_filter : filter_in (absorption key row m r state).state ≡ filter_in state
  absorbed_filter = filter_alike (absorption key row m r state).state state absorbed_behind

  pub absorbed_length : length (absorption key row m r state).state ≡ length state
  absorbed_length = absorbed_stays length m r state (λ t vector. kept-length t vector m r state) (λ tail. counted-length tail m r state) key row
