-- The three demands of the plain reading, whose rows are taken in list order: this order takes each row that counts once and goes by constraints.
-- The agreement of demand 2 is the number of rows that count. Document 02, wish 3: "Demand 2 takes this rule; 3 holds."
-- Assumes nothing.
use mathlib.Core.Path.{◌≡◌}
use Prim.Native.Nat.{ℕ, ◌*◌, ◌≤◌}
use mathlib.Core.List.{List}
use mathlib.Core.Logic.{◌⊎◌}
use lib.ListN.{length}
use Rattle.space.specs.Lists.{marked, All, Below}
use Rattle.rows.specs.Rows.{symbols, entries_of, rows_of, agrees}
use Rattle.rows.specs.Shift.{shifted_list}
use Rattle.reading.specs.declared.Answer.TheVariants as answer
use Rattle.reading.specs.Reading.{rank}
use Rattle.reading.specs.Orders.{counts, in_list_order}
use Rattle.reading.specs.Marks.{telling}
use Rattle.reading.specs.Outcome.{Lent, checks, passes, ended, outcome}
use Rattle.reading.specs.Writes.{Early, Late}
use Rattle.reading.specs.Added.{added}
use Rattle.demands.proofs.Any.{listed-takes}
use Rattle.demands.proofs.Shifted.{listed_by_constraints}
use Rattle.demands.proofs.Demand1.{demand_1}
use Rattle.demands.proofs.Demand2.{demand_2}
use Rattle.demands.proofs.Demand3.{demand_3}

pub plain_demand_1 : (n l : ℕ) (list : List ℕ) (lent : Lent)
    → Early lent (outcome n l list lent) ⊎ Late n l (entries_of l list) (in_list_order (entries_of l list)) lent (outcome n l list lent)
plain_demand_1 = demand_1 in_list_order

pub plain_demand_2 : (n l : ℕ) (list : List ℕ) (lent : Lent) → checks n l list lent ≡ passes
    → (page : List ℕ) → length page ≡ n * l → Below 256 page
    → All (agrees l (symbols n l page)) (rows_of l list) → n ≤ rank (rows_of l list)
    → outcome n l list lent ≡ ended n l (entries_of l list) (in_list_order (entries_of l list)) lent (answer.Page n (marked (counts (entries_of l list)))) telling page
plain_demand_2 n l list = demand_2 in_list_order n l list (listed-takes (entries_of l list))

pub plain_demand_3 : (n l : ℕ) (list : List ℕ) (lent : Lent) → Below 256 list → checks n l list lent ≡ passes
    → (second : List ℕ) → length second ≡ n * l → Below 256 second
    → outcome n l (shifted_list l (symbols n l second) list) lent ≡ added second (outcome n l list lent)
plain_demand_3 n l = demand_3 in_list_order n l (listed_by_constraints l)
