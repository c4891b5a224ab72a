-- What counting a row does to what a state tells: the uses are raised, and the arrival is given no kept place. The slots stay, and the
-- order with all behind it. Assumes nothing.
use mathlib.Core.Path.{◌≡◌, ap, ◌∙◌}
use mathlib.Core.Bool.{true, ◌&&◌}
use mathlib.Core.List.{List}
use Prim.Native.Nat.{ℕ, ◌+◌, ◌*◌, ◌≤◌, ◌<◌}
use native.Mathlib.Omega.{arith}
use lib.Dec.{eqb, leb, ltb, lit<}
use lib.ListN.{length, drop, set}
use borrow.Author.Tests.{leb-true, ltb-true, eqb-true}
use Rattle.space.specs.Lists.{Below}
use Rattle.space.proofs.Both.{both}
use Rattle.octets.specs.Octets.{number, bytes, flat, lay}
use Rattle.octets.proofs.Numbers.{length-bytes}
use Rattle.octets.proofs.Runs.{length-flat, length-numbers}
use Rattle.octets.proofs.Lay.{length-lay, drop-after}
use Rattle.reading.specs.Raised.{raised}
use Rattle.basis.specs.Algorithm2.{digits}
use Rattle.tally.specs.Tally.{most_kept, tail_bytes}
use Rattle.tally.proofs.Uses.{length-raised}
use Rattle.state.specs.Layout.{uses_at, places_at, heads_at, order_at, state_bytes, slots_in, uses_in, places_in}
use Rattle.counting.specs.Counting.{CountRoom, row_counted, tallies, counted_state}
use Rattle.state.proofs.Sizes.{sizes}
use Rattle.counting.proofs.Fits.{counted_is}
use Rattle.views.proofs.Laid.{unless, slots_stay, pairs-before, pairs-behind, pairs_set, pairs_anew}

module _ (tail : List ℕ) (m r : ℕ) (state : List ℕ) (K : CountRoom (length tail) m r (length state)) where
  abbrev us : List ℕ
  us = raised (digits r (number tail)) (uses_in r state)

  long : length us ≡ r
  unfolding uses_in
  long = length-raised r (number tail) (uses_in r state) ∙ length-numbers 2 r _

  abbrev laid : List ℕ
  laid = lay uses_at (flat 2 us) state

  laid_below : uses_at + length (flat 2 us) ≤ places_at
  laid_below = omega (arith, length-flat 2 us, long, sizes, K.rank)

  laid-fits : uses_at + length (flat 2 us) ≤ length state
  laid-fits = omega (arith, laid_below, sizes, K.whole)

  laid-long : length laid ≡ length state
  laid-long = length-lay uses_at (flat 2 us) state laid-fits

  none_below : places_at + 2 * m + length (bytes 2 0) ≤ heads_at
  none_below = omega (arith, length-bytes 2 0, sizes, K.arrival)

  none_fits : places_at + 2 * m + length (bytes 2 0) ≤ length laid
  none_fits = omega (arith, none_below, laid-long, sizes, K.whole)

  is : counted_state tail m r state ≡ row_counted (number tail) m r state
  is = counted_is tail m r state K

  pub counted-slots : (key : ℕ) → key ≤ 40 → slots_in key (counted_state tail m r state) ≡ slots_in key state
  unfolding row_counted
  counted-slots key h =
      rw is (slots_stay (places_at + 2 * m) (bytes 2 0) laid none_fits key h (omega (arith, sizes)) ∙ slots_stay uses_at (flat 2 us) state laid-fits key h (omega arith))

  pub counted-uses : Below 65536 us → uses_in r (counted_state tail m r state) ≡ us
  unfolding row_counted uses_in
  counted-uses b =
      rw is (pairs-before (places_at + 2 * m) (bytes 2 0) laid none_fits uses_at r (omega (arith, sizes, K.rank))
      ∙ pairs_anew uses_at r us state long b (omega (arith, sizes, K.whole)))

  pub counted-places : (n : ℕ) → m < n → n ≤ 512 → places_in n (counted_state tail m r state) ≡ set (places_in n state) m 0
  unfolding row_counted places_in
  counted-places n l h =
      rw is (pairs_set places_at n m 0 laid (lit< tt) l (omega (arith, sizes, laid-long, K.whole))
      ∙ ap (λ (ps : List ℕ). set ps m 0) (pairs-behind uses_at (flat 2 us) state laid-fits places_at n laid_below))

  row-long : length (row_counted (number tail) m r state) ≡ length state
  unfolding row_counted
  row-long = length-lay (places_at + 2 * m) (bytes 2 0) laid none_fits ∙ laid-long

  row-behind : drop order_at (row_counted (number tail) m r state) ≡ drop order_at state
  unfolding row_counted
  row-behind =
      drop-after order_at (places_at + 2 * m) (bytes 2 0) laid (omega (arith, none_below, sizes)) (omega (arith, none_fits))
      ∙ drop-after order_at uses_at (flat 2 us) state (omega (arith, laid_below, sizes)) (omega (arith, laid-fits))

-- ---- whether or not it fits

module _ (tail : List ℕ) (m r : ℕ) (state : List ℕ) where
  tallies_so : tallies (length tail) m r (length state) ≡ true → CountRoom (length tail) m r (length state)
  unfolding tallies
  tallies_so e =
      let a : (eqb (length tail) tail_bytes ≡ true) × ((ltb m 512 && (leb r most_kept && leb state_bytes (length state))) ≡ true) = both _ _ e in
      let b : (ltb m 512 ≡ true) × ((leb r most_kept && leb state_bytes (length state)) ≡ true) = both _ _ a.1 in
      let d : (leb r most_kept ≡ true) × (leb state_bytes (length state) ≡ true) = both _ _ b.1 in
      record {
        wide = eqb-true (length tail) tail_bytes a.0;
        arrival = ltb-true m 512 b.0;
        rank = leb-true r most_kept d.0;
        whole = leb-true state_bytes (length state) d.1;
      }

  pub counted-length : length (counted_state tail m r state) ≡ length state
  unfolding counted_state
  counted-length = unless length (tallies (length tail) m r (length state)) (row_counted (number tail) m r state) state (λ e. row-long tail m r state (tallies_so e))

  -- the order and all bytes behind it stay
  pub counted-behind : drop order_at (counted_state tail m r state) ≡ drop order_at state
  unfolding counted_state
  counted-behind = unless (drop order_at) (tallies (length tail) m r (length state)) (row_counted (number tail) m r state) state (λ e. row-behind tail m r state (tallies_so e))
