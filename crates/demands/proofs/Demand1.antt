-- Demand 1, in any order: "a refused call writes nothing, except that the three refusals after elimination fill the marks and clear the scratch." The
-- numbers 1 to 4 come of the checks, and the numbers 5, 6, 7 and 0 of a reading.
-- Assumes nothing.
use mathlib.Core.Path.{refl}
use Prim.Native.Nat.{ℕ}
use mathlib.Core.List.{List}
use mathlib.Core.Logic.{◌⊎◌, inl, inr}
use Rattle.rows.specs.Rows.{entries_of}
use Rattle.reading.specs.Outcome.{Lent, Check, passes, refuses, checks, after, outcome_in}
use Rattle.reading.specs.Writes.{Early, Late}
use Rattle.reading.proofs.Writes.{EarlyCheck, checks_early, read-late}

pub demand_1 : (order : List ℕ → List ℕ) (n l : ℕ) (list : List ℕ) (lent : Lent)
    → Early lent (outcome_in order n l list lent) ⊎ Late n l (entries_of l list) (order (entries_of l list)) lent (outcome_in order n l list lent)
unfolding outcome_in
demand_1 order n l list lent = go (checks n l list lent) (checks_early n l list lent)
  where
    entries : List ℕ
    entries = entries_of l list

    go : (k : Check) → EarlyCheck k → Early lent (after k n l entries (order entries) lent) ⊎ Late n l entries (order entries) lent (after k n l entries (order entries) lent)
    go passes e = inr (unfold after in read-late n l entries (order entries) lent)
    go (refuses a) e = inl (unfold after in record { positive = e.0; small = e.1; nothing = refl })
