-- What writes and what does not: the checks give the numbers 1 to 4, and a reading in any order gives 5, 6, 7 or 0 and writes as these do. By cases.
-- Assumes nothing.
use mathlib.Core.Path.{refl}
use Prim.Native.Nat.{ℕ, suc, ◌^◌, ◌≤◌}
use native.Mathlib.Omega.{arith}
use mathlib.Core.Bool.{Bool, true, false, cond, not}
use mathlib.Core.List.{List, [], ◌∷◌}
use lib.Dec.{leb}
use Rattle.octets.proofs.Runs.{over_none}
use Rattle.rows.specs.Rows.{shape, row_count, rows_of, constraint}
use Rattle.reading.specs.Answer.{answer_numbers}
use Rattle.reading.specs.Orders.{taken}
use Rattle.reading.specs.Verdict.{Verdict, too_few, tied, dependent, answered, verdict}
use Rattle.reading.specs.Outcome.{Lent, Check, passes, refuses, whole_rows, roomy, stray_from, checks, ended, told, read}
use Rattle.reading.specs.Writes.{Late}

-- ---- the checks

abbrev pub EarlyCheck : Check → Type 0
EarlyCheck passes = Unit {0}
EarlyCheck (refuses a) = (1 ≤ (answer_numbers a).number) × ((answer_numbers a).number ≤ 4)

either : (b : Bool) (x y : Check) → EarlyCheck x → EarlyCheck y → EarlyCheck (cond b x y)
either true x y p q = p
either false x y p q = q

stray_early : (n l i : ℕ) (rows : List ℕ) → EarlyCheck (stray_from n l i rows)
unfolding stray_from answer_numbers
stray_early n l i [] = tt
stray_early n l i (r ∷ rows) = either (leb (2 ^ n) (constraint l r)) _ _ (omega arith) (stray_early n l (suc i) rows)

pub checks_early : (n l : ℕ) (list : List ℕ) (lent : Lent) → EarlyCheck (checks n l list lent)
unfolding checks answer_numbers
checks_early n l list lent =
    either (not (shape n l)) _ _ (omega arith) (either (not (whole_rows l list)) _ _ (omega arith)
    (either (not (roomy n l (row_count l list) lent)) _ _ (omega arith) (stray_early n l 0 (rows_of l list))))

-- ---- the reading

told-late : (v : Verdict) (n l : ℕ) (entries order : List ℕ) (lent : Lent) → Late n l entries order lent (told v n l entries order lent)
unfolding told ended answer_numbers
told-late too_few n l entries order lent = record { late_number = omega arith; uses = refl; roles = refl; scratch = refl; page = λ h. over_none lent.page }
told-late tied n l entries order lent = record { late_number = omega arith; uses = refl; roles = refl; scratch = refl; page = λ h. over_none lent.page }
told-late dependent n l entries order lent = record { late_number = omega arith; uses = refl; roles = refl; scratch = refl; page = λ h. over_none lent.page }
told-late (answered page) n l entries order lent = record { late_number = omega arith; uses = refl; roles = refl; scratch = refl; page = λ h. absurd (omega arith) }

pub read-late : (n l : ℕ) (entries order : List ℕ) (lent : Lent) → Late n l entries order lent (read n l entries order lent)
unfolding read
read-late n l entries order lent = told-late (verdict n l (taken l entries order)) n l entries order lent
