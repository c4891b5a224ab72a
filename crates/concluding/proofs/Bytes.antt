-- What is written in a state is bytes: so elimination leaves bytes in a state of bytes, and so does what is noted in its order and its filter.
-- Assumes nothing.
use Prim.Native.Nat.{ℕ, zero, suc, ◌*◌}
use native.Mathlib.Omega.{arith}
use mathlib.Core.Bool.{Bool, true, false, cond}
use mathlib.Core.List.{List, [], ◌∷◌}
use lib.Dec.{leb, ltb}
use lib.ListN.{length, take, drop, replicate}
use Rattle.space.specs.Lists.{Below}
use Rattle.space.proofs.Lists.{below_append}
use Rattle.octets.specs.Octets.{number, over, lay}
use Rattle.octets.proofs.Numbers.{bytes_below}
use Rattle.octets.proofs.Runs.{below_parts, flat_below}
use Rattle.littles.proofs.Littles.{little_bytes_below}
use Rattle.filter.specs.Filter.{filter_bytes}
use Rattle.filter.proofs.Noted.{note_below}
use Rattle.lists.specs.Lists.{row_at}
use Rattle.basis.specs.Algorithm2.{Pass}
use Rattle.tally.specs.Tally.{most_kept}
use Rattle.state.specs.Layout.{order_at, filter_at, state_bytes, order_in, filter_in}
use Rattle.state.specs.Written.{emptied}
use Rattle.noting.specs.Noting.{orders, ordered_state, noted_state}
use Rattle.keeping.specs.Keeping.{head_of, placed_state, row_kept, keeps, kept_state}
use Rattle.counting.specs.Counting.{row_counted, tallies, counted_state}
use Rattle.absorb.specs.declared.Absorbed.TheVariants.{Misfit}
use Rattle.absorb.specs.Absorbing.{Absorption, absorbed_as, pass_in, taken, takes, absorption}
use Rattle.echelon.specs.Eliminating.{Elimination, Eliminating, one_more, absorb_in, eliminates, elimination}

abbrev Low : List ℕ → Type 0
Low = Below 256

pub lay_low : (at : ℕ) (new old : List ℕ) → Low new → Low old → Low (lay at new old)
unfolding lay
lay_low at new old b c =
    below_append 256 (take at old) _ (below_parts 256 at old c).0 (below_append 256 new _ b (below_parts 256 (length new) (drop at old) (below_parts 256 at old c).1).1)

pub zeros_low : (k : ℕ) → Low (replicate k 0)
zeros_low zero = tt
zeros_low (suc k) = (omega arith, zeros_low k)

-- written or not
either : {A : Type 0} (low : A → Type 0) (b : Bool) (x y : A) → low x → low y → low (cond b x y)
either low true x y p q = p
either low false x y p q = q

-- ---- a row

kept_low : (t : ℕ) (vector : List ℕ) (m r : ℕ) (state : List ℕ) → Low state → Low (kept_state t vector m r state)
unfolding kept_state row_kept placed_state head_of
kept_low t vector m r state b =
    either Low (keeps t m r (length vector) (length state)) _ state
    (lay_low _ _ _ (bytes_below _ _) (lay_low _ _ _ (little_bytes_below 8 _) (lay_low _ _ _ (bytes_below 2 0) (lay_low _ _ _ (bytes_below 2 _) b)))) b

counted_low : (tail : List ℕ) (m r : ℕ) (state : List ℕ) → Low state → Low (counted_state tail m r state)
unfolding counted_state row_counted
counted_low tail m r state b =
    either Low (tallies (length tail) m r (length state)) _ state (lay_low _ _ _ (bytes_below 2 0) (lay_low _ _ _ (flat_below 2 _) b)) b

pub absorbed_low : (key row m r : ℕ) (state : List ℕ) → Low state → Low (absorption key row m r state).state
unfolding absorption taken
absorbed_low key row m r state b = either holds (takes key m r (length state)) _ (absorbed_as Misfit state) (by (pass_in key row state)) b
  where
    holds : Absorption → Type 0
    holds a = Low a.state

    by : (p : Pass) → holds (taken key p m r state)
    by p = either holds (ltb p.stop (8 * key)) _ _ (either holds (ltb r most_kept) _ (absorbed_as Misfit state) (kept_low p.stop _ m r state b) b) (counted_low _ m r state b)

-- ---- its arrival in the order, and its seed in the filter

pub ordered_low : (i m : ℕ) (state : List ℕ) → Below 256 state → Below 256 (ordered_state i m state)
unfolding ordered_state
ordered_low i m state b = either Low (orders i m (length state)) _ state (lay_low _ _ _ (bytes_below 2 m) b) b

pub noted_low : (seed : ℕ) (state : List ℕ) → Below 256 state → Below 256 (noted_state seed state)
unfolding noted_state filter_in
noted_low seed state b =
    either Low (leb state_bytes (length state)) _ state
    (lay_low _ _ _ (note_below seed (filter_in state) (below_parts 256 filter_bytes (drop filter_at state) (below_parts 256 filter_at state b).1).0) b) b

-- ---- those of an order

module _ (l : ℕ) (list : List ℕ) where
  in_low : (order : List ℕ) (e : Elimination) → Low e.state → Low (absorb_in l list order e).state
  unfolding absorb_in
  in_low [] e b = b
  in_low (a ∷ order) e b = in_low order (one_more l list a e) (unfold one_more in absorbed_low (length (row_at l a list)) (number (row_at l a list)) a e.rank e.state b)

  emptied_low : (state : List ℕ) → Low state → Low (emptied state)
  unfolding emptied over
  emptied_low state b =
      either Low (leb state_bytes (length state)) _ state (below_append 256 (replicate order_at 0) _ (zeros_low order_at) (below_parts 256 (length (replicate {A = ℕ} order_at 0)) state b).1) b

  pub eliminated_low : (m : ℕ) (state : List ℕ) → Below 256 state → Below 256 (elimination l list m state).state
  unfolding elimination
  eliminated_low m state b = either holds (eliminates l m (length state)) _ _ (in_low (order_in m state) _ (emptied_low state b)) b
    where
      holds : Eliminating → Type 0
      holds e = Low e.state
