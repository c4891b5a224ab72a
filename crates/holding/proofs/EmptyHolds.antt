-- A state made empty holds what the empty order takes: nothing.
-- Assumes nothing.
use mathlib.Core.Path.{refl, ◌∙◌}
use mathlib.Core.List.{List, []}
use Prim.Native.Nat.{ℕ, ◌≤◌}
use native.Mathlib.Omega.{arith}
use lib.ListN.{length}
use Rattle.space.specs.Lists.{select, tabulate}
use Rattle.octets.specs.Octets.{numbers}
use Rattle.rows.specs.Rows.{row_bytes}
use Rattle.reading.specs.Reading.{kept, kept_after, kept_rows, other_rows, rank, uses, uses_of}
use Rattle.reading.specs.Orders.{taken}
use Rattle.basis.specs.Algorithm2.{steps, start, algorithm2}
use Rattle.state.specs.Layout.{state_bytes, uses_in}
use Rattle.state.specs.Written.{emptied}
use Rattle.holding.specs.Holds.{Holds}
use Rattle.views.proofs.Emptied.{emptied-length, emptied-slots, emptied-places}
use Rattle.holding.proofs.Places.{places-empty}

pub empty_holds : (l : ℕ) (entries state : List ℕ) → 1 ≤ l → l ≤ 32 → length entries ≤ 512 → state_bytes ≤ length state → Holds l entries [] (emptied state)
empty_holds l entries state some most many room =
    record {
      some = some;
      most = most;
      room = omega (arith, emptied-length state);
      many = many;
      few = omega arith;
      slots = emptied-slots state room (row_bytes l) (omega arith) ∙ unfold taken algorithm2 steps start in refl;
      uses = unfold taken rank uses uses_of kept kept_rows other_rows kept_after select tabulate uses_in numbers in refl;
      places = emptied-places state room (length entries) many ∙ places-empty l entries;
    }
