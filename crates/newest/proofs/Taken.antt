-- The numbers of a good header.
-- Assumes nothing.
use mathlib.Core.Path.{ap}
use mathlib.Core.List.{List}
use Prim.Native.Nat.{ℕ, ◌<◌}
use native.Mathlib.Omega.{arith}
use Rattle.space.specs.Lists.{Below}
use Rattle.space.proofs.Lists.{below_at}
use Rattle.doubles.specs.Doubles.{pairs_in, pair_at}
use Rattle.doubles.proofs.Doubles.{pairs_lt}
use Rattle.store.specs.declared.Head.{Head}
use Rattle.store.specs.Store.{taken_in, rank_in}
use Rattle.store.specs.Header.{head_in}
use Rattle.store.proofs.Checked.{GoodHead}
use Rattle.newest.specs.Newest.{Ranged}

-- ---- the numbers of a good header

pub ranged : (store : List ℕ) (h : Head) → Below 256 store → GoodHead store h → Ranged h
unfolding head_in taken_in rank_in
ranged store h b g =
    let two : (i : ℕ) → pair_at i store < 65536 = λ i. below_at 65536 (pairs_in store) i (omega arith) (pairs_lt store b) in
    record {
      rows = g.few;
      taken = rw (← ap (λ (x : Head). x.taken) g.is) (two 4);
      rank = rw (← ap (λ (x : Head). x.rank) g.is) (two 5);
    }
