-- Where every row counts, as where the seeds all differ, a reading is document 01's: each row is taken, and marked so.
-- Assumes nothing.
use mathlib.Core.Path.{◌≡◌, refl, sym, ap, ◌∙◌}
use Prim.Native.Nat.{ℕ, suc}
use native.Mathlib.Omega.{arith}
use mathlib.Core.Bool.{Bool, true, false, false≢true}
use mathlib.Core.List.{List, [], ◌∷◌, map}
use lib.ListN.{length, length-map}
use Rattle.space.specs.Lists.{select, marked, All}
use Rattle.rows.specs.Rows.{vector}
use Rattle.reading.specs.Reading.{uses, picked}
use Rattle.reading.specs.Orders.{counts, taken, in_list_order}
use Rattle.reading.specs.Marks.{uses_marks, roles_marks}
use Rattle.reading.proofs.Counted.{length-counts}
use Rattle.reading.proofs.Listed.{taken-listed}
use Rattle.held.specs.Listed.{listed_uses, listed_roles}
use Rattle.held.proofs.Listed.{marks_all}

select-each : {A : Type 0} (bs : List Bool) → All (λ b. b) bs → (xs : List A) → length bs ≡ length xs → select bs xs ≡ xs
unfolding select
select-each [] h [] e = refl
select-each [] h (x ∷ xs) e = absurd (omega arith)
select-each (b ∷ bs) h [] e = absurd (omega arith)
select-each (true ∷ bs) h (x ∷ xs) e = ap (λ t. x ∷ t) (select-each bs h.1 xs (omega arith))
select-each (false ∷ bs) h (x ∷ xs) e = absurd (false≢true h.0)

every_marked : (bs : List Bool) → All (λ b. b) bs → marked bs ≡ length bs
unfolding marked
every_marked [] h = refl
every_marked (true ∷ bs) h = ap suc (every_marked bs h.1)
every_marked (false ∷ bs) h = absurd (false≢true h.0)

module _ (l : ℕ) (entries : List ℕ) (each : All (λ c. c) (counts entries)) where
  pub once-counted : marked (counts entries) ≡ length entries
  once-counted = every_marked (counts entries) each ∙ length-counts entries

  pub once-taken : taken l entries (in_list_order entries) ≡ map (vector l) entries
  once-taken = taken-listed l entries ∙ select-each (counts entries) each (map (vector l) entries) (length-counts entries ∙ sym (length-map entries (vector l)))

  pub once-uses : uses_marks l entries (in_list_order entries) ≡ listed_uses (map (vector l) entries)
  unfolding uses_marks listed_uses
  once-uses = marks_all l entries 65535 (uses (taken l entries (in_list_order entries))) ∙ rw once-taken

  pub once-roles : (role : Bool → ℕ) (n : ℕ) → roles_marks role n l entries (in_list_order entries) ≡ listed_roles role n (map (vector l) entries)
  unfolding roles_marks listed_roles
  once-roles role n = marks_all l entries 0 (map role (picked n (taken l entries (in_list_order entries)))) ∙ rw once-taken
