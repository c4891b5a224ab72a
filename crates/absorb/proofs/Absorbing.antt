-- What fits `absorb`, and its answer and state each way: not kept, kept, or no kept place left.
-- Assumes nothing.
use mathlib.Core.Path.{◌≡◌}
use mathlib.Core.List.{List}
use mathlib.Core.Bool.{true, ◌&&◌}
use Prim.Native.Nat.{ℕ, ◌*◌, ◌≤◌, ◌<◌}
use lib.Dec.{leb, ltb}
use lib.ListN.{length}
use borrow.Author.Tests.{le-leb, leb-true, lt-ltb, le-ltb, ltb-true}
use Rattle.absorb.specs.declared.Absorbed.TheVariants.{Kept, Other, Misfit}
use Rattle.octets.specs.Octets.{bytes}
use Rattle.basis.specs.Algorithm2.{Pass}
use Rattle.tally.specs.Tally.{most_kept, tail_bytes}
use Rattle.state.specs.Layout.{vector_bytes, state_bytes}
use Rattle.keeping.specs.Keeping.{kept_state}
use Rattle.counting.specs.Counting.{counted_state}
use Rattle.absorb.specs.Absorbing.{absorbed_as, taken, takes, absorption, pass_in}
use Rattle.space.proofs.Both.{both}

-- ---- what fits

pub record Takes (key m r room : ℕ) : Type 0 where
  pub low : 9 ≤ key
  pub high : key ≤ 40
  pub arrival : m < 512
  pub rank : r ≤ most_kept
  pub whole : state_bytes ≤ room

pub takes_so : (key m r room : ℕ) → takes key m r room ≡ true → Takes key m r room
unfolding takes
takes_so key m r room e =
    let a : ((leb 9 key && leb key 40) ≡ true) × (((ltb m 512 && leb r most_kept) && leb state_bytes room) ≡ true) = both _ _ e in
    let b : (leb 9 key ≡ true) × (leb key 40 ≡ true) = both _ _ a.0 in
    let d : ((ltb m 512 && leb r most_kept) ≡ true) × (leb state_bytes room ≡ true) = both _ _ a.1 in
    let f : (ltb m 512 ≡ true) × (leb r most_kept ≡ true) = both _ _ d.0 in
    record {
      low = leb-true 9 key b.0;
      high = leb-true key 40 b.1;
      arrival = ltb-true m 512 f.0;
      rank = leb-true r most_kept f.1;
      whole = leb-true state_bytes room d.1;
    }

pub takes_when : (key m r room : ℕ) → Takes key m r room → takes key m r room ≡ true
unfolding takes
takes_when key m r room T =
    rw (le-leb 9 key T.low) (rw (le-leb key 40 T.high) (rw (lt-ltb m 512 T.arrival) (rw (le-leb r most_kept T.rank) (le-leb state_bytes room T.whole))))

-- ---- the outcome

module _ (key : ℕ) (p : Pass) (m r : ℕ) (state : List ℕ) where
  pub taken-other : 8 * key ≤ p.stop → taken key p m r state ≡ absorbed_as Other (counted_state (bytes tail_bytes p.vector) m r state)
  unfolding taken
  taken-other h = rw (le-ltb p.stop (8 * key) h)

  pub taken-kept : p.stop < 8 * key → r < most_kept → taken key p m r state ≡ absorbed_as Kept (kept_state p.stop (bytes vector_bytes p.vector) m r state)
  unfolding taken
  taken-kept h l = rw (lt-ltb p.stop (8 * key) h) (rw (lt-ltb r most_kept l))

  pub taken_full : p.stop < 8 * key → most_kept ≤ r → taken key p m r state ≡ absorbed_as Misfit state
  unfolding taken
  taken_full h l = rw (lt-ltb p.stop (8 * key) h) (rw (le-ltb r most_kept l))

module _ (key row m r : ℕ) (state : List ℕ) where
  pub absorbed_so : takes key m r (length state) ≡ true → taken key (pass_in key row state) m r state ≡ absorption key row m r state
  unfolding absorption
  absorbed_so e = rw e
