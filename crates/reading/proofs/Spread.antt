-- How many marks there are: one for each entry, in any order; and what stands at one place of a list that was mapped.
-- Assumes nothing.
use mathlib.Core.Path.{◌≡◌, refl, ◌∙◌}
use Prim.Native.Nat.{ℕ, zero, suc, ◌<◌}
use native.Mathlib.Omega.{arith}
use mathlib.Core.Bool.{Bool}
use mathlib.Core.List.{List, [], ◌∷◌, map}
use lib.ListN.{length, get_or, length-map, get_or-map}
use Rattle.space.proofs.Lists.{length-tabulate}
use Rattle.rows.specs.Rows.{row_count, entries_of}
use Rattle.rows.proofs.Lists.{length-entries_of}
use Rattle.reading.specs.Marks.{by_arrival, uses_marks, roles_marks}

-- ---- by arrival

pub marks_rows : (l : ℕ) (entries order : List ℕ) → length (uses_marks l entries order) ≡ length entries
unfolding uses_marks by_arrival
marks_rows l entries order = length-tabulate (length entries) _

pub roles-rows : (role : Bool → ℕ) (n l : ℕ) (entries order : List ℕ) → length (roles_marks role n l entries order) ≡ length entries
unfolding roles_marks by_arrival
roles-rows role n l entries order = length-tabulate (length entries) _

pub length_marks : (l : ℕ) (list order : List ℕ) → length (uses_marks l (entries_of l list) order) ≡ row_count l list
length_marks l list order = marks_rows l (entries_of l list) order ∙ length-entries_of l list

pub length-roles : (role : Bool → ℕ) (n l : ℕ) (list order : List ℕ) → length (roles_marks role n l (entries_of l list) order) ≡ row_count l list
length-roles role n l list order = roles-rows role n l (entries_of l list) order ∙ length-entries_of l list

-- ---- at one place

-- inside a list the default does not count
pub get_d_any : (xs : List ℕ) (j d e : ℕ) → j < length xs → get_or xs j d ≡ get_or xs j e
get_d_any [] j d e h = absurd (omega arith)
get_d_any (x ∷ xs) zero d e h = refl
get_d_any (x ∷ xs) (suc j) d e h = get_d_any xs j d e (omega arith)

pub get_or_mapped : (f : ℕ → ℕ) (xs : List ℕ) (j : ℕ) → j < length xs → get_or (map f xs) j 0 ≡ f (get_or xs j 0)
get_or_mapped f xs j h = get_d_any (map f xs) j 0 (f 0) (omega (arith, length-map xs f)) ∙ get_or-map f xs j 0
