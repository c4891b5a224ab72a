-- A working of zeros is current where no row is there: it is a state made empty, and no seed is noted in it.
-- Assumes nothing.
use mathlib.Core.Path.{◌≡◌, refl, sym, ap, ◌∙◌}
use mathlib.Core.List.{List, []}
use Prim.Native.Nat.{ℕ, ◌-◌, ◌*◌, ◌≤◌}
use native.Mathlib.Omega.{arith}
use lib.ListN.{length, take, replicate, length-replicate}
use Rattle.space.specs.Lists.{Below, select}
use Rattle.octets.specs.Octets.{numbers}
use Rattle.octets.proofs.Loaded.{drop-zeros, take-zeros}
use Rattle.filter.specs.Filter.{filter_bytes, noting}
use Rattle.places.specs.Places.{most_rows}
use Rattle.rows.specs.Rows.{list_row_bytes}
use Rattle.reading.specs.Reading as reading
use Rattle.reading.specs.Orders as orders
use Rattle.order.specs.Listed.{seeds_noted}
use Rattle.state.specs.Layout.{filter_at, state_bytes, order_in, filter_in}
use Rattle.state.proofs.Sizes.{sizes}
use Rattle.views.proofs.Emptied.{emptied-zeros}
use Rattle.holding.proofs.EmptyHolds.{empty_holds}
use Rattle.concluding.proofs.Bytes.{zeros_low}
use Rattle.current.specs.Current.{first_entries, order_of, taken_rows, Current}
use Rattle.current.proofs.Firsts.{length-firsts}

module _ (l : ℕ) (list : List ℕ) where
  none : order_of l 0 list ≡ []
  none = unfold order_of first_entries numbers orders.in_list_order orders.counts orders.counts_after select in refl

  no_rank : 0 ≡ reading.rank (taken_rows l 0 list)
  unfolding taken_rows
  no_rank = rw none (unfold orders.taken reading.rank reading.kept_rows reading.kept reading.kept_after select in refl)

  -- zeros of any number, so that none is written out
  module _ (n : ℕ) (whole : n ≡ state_bytes) where
    long : length {A = ℕ} (replicate n 0) ≡ n
    long = length-replicate n 0

    no_seeds : filter_in (replicate n 0) ≡ seeds_noted l (first_entries l 0 list)
    unfolding filter_in seeds_noted first_entries numbers noting
    no_seeds = ap (take filter_bytes) (drop-zeros filter_at n) ∙ take-zeros filter_bytes (n - filter_at) (omega (arith, sizes))

    zeros-current : 1 ≤ l → l ≤ 32 → list_row_bytes l * most_rows ≤ length list → Below 256 list → Current l list 0 0 0 (replicate n 0)
    zeros-current some most room low = record {
      list_room = room;
      list_low = low;
      many = omega arith;
      size = long ∙ whole;
      low = zeros_low n;
      counted = sym (ap length none);
      ranked = no_rank;
      order = unfold order_in numbers in sym none;
      seeds = no_seeds;
      holds = rw none (rw (emptied-zeros n) at
          (empty_holds l (first_entries l most_rows list) (replicate n 0) some most (omega (arith, length-firsts l most_rows list)) (omega (arith, long))));
    }

pub current-empty : (l : ℕ) (list : List ℕ) → 1 ≤ l → l ≤ 32 → list_row_bytes l * most_rows ≤ length list → Below 256 list → Current l list 0 0 0 (replicate state_bytes 0)
current-empty l list = zeros-current l list state_bytes refl
