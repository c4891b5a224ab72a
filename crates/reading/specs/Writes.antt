-- What an answer writes into the lent buffers: demand 1, of an outcome.
use Rattle.std.specs.Prelude.{ℕ, ◌≤◌, ◌≡◌, Bool, cond, ◌||◌, List, eqb}
use Rattle.octets.specs.Octets.{over}
use Rattle.reading.specs.Answer.{answer_numbers}
use Rattle.reading.specs.Marks.{uses_marks, roles_marks, plain, telling}
use Rattle.reading.specs.Outcome.{Lent, Outcome, zeros}

-- The answer number of an outcome.
abbrev pub answer_number : Outcome → ℕ
answer_number o = (answer_numbers o.answer).number

-- "Numbers 1 to 4 write nothing."
pub record Early (lent : Lent) (o : Outcome) : Type 0 where
  pub positive : 1 ≤ answer_number o
  pub small : answer_number o ≤ 4
  pub nothing : o.lent ≡ lent

-- "no 2 under 5 and 6"
abbrev pub role_under : ℕ → Bool → ℕ
role_under number = cond (eqb number 5 || eqb number 6) plain telling

-- "Numbers 5, 6, 7 and 0 write the first m uses .. and the first m roles .. They set the first 32,768 scratch bytes to zero. Only 0 writes
-- the page".
pub record Late (n l : ℕ) (entries order : List ℕ) (lent : Lent) (o : Outcome) : Type 0 where
  pub late_number : 1 ≤ answer_number o → (5 ≤ answer_number o) × (answer_number o ≤ 7)
  pub uses : o.lent.uses ≡ over (uses_marks l entries order) lent.uses
  pub roles : o.lent.roles ≡ over (roles_marks (role_under (answer_number o)) n l entries order) lent.roles
  pub scratch : o.lent.scratch ≡ over zeros lent.scratch
  pub page : 1 ≤ answer_number o → o.lent.page ≡ lent.page
