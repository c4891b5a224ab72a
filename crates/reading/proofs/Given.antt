-- What the checks decide, and where a page is given: the list passed the checks, nothing ties, and the picked rows have one answer.
-- Assumes nothing.
use mathlib.Core.Path.{◌≡◌, refl, sym, ap, ◌∙◌}
use Prim.Native.Nat.{ℕ, ◌≤◌}
use mathlib.Core.Bool.{Bool, true, false, cond, true≢false}
use mathlib.Core.List.{List}
use native.Mathlib.Omega.{arith}
use lib.Dec.{eqb}
use borrow.Author.Tests.{eqb-true}
use Rattle.rows.specs.Rows.{entries_of}
use Rattle.reading.specs.declared.Answer.{Answer}
use Rattle.reading.specs.Answer.{answer_numbers}
use Rattle.reading.specs.Reading.{few, tie, singular, picked_rows, page_of}
use Rattle.reading.specs.Orders.{taken}
use Rattle.reading.specs.Verdict.{Verdict, too_few, tied, dependent, answered, verdict}
use Rattle.reading.specs.Outcome.{Lent, Outcome, Check, passes, refuses, checks, ended, told, read, after, outcome_in, gave}
use Rattle.reading.proofs.Writes.{EarlyCheck, checks_early}

-- an answer above 0 gives no page
pub none_given : (o : Outcome) → 1 ≤ (answer_numbers o.answer).number → gave o ≡ false
unfolding gave
none_given o h = go (eqb (answer_numbers o.answer).number 0) refl
  where
    go : (b : Bool) → eqb (answer_numbers o.answer).number 0 ≡ b → b ≡ false
    go false e = refl
    go true e = absurd (omega (arith, eqb-true (answer_numbers o.answer).number 0 e))

module _ (n l : ℕ) (entries order : List ℕ) (lent : Lent) where
  abbrev rows : List ℕ
  rows = taken l entries order

  abbrev page : List ℕ
  page = page_of n l (picked_rows n rows)

  pub record Given : Type 0 where
    pub enough : few n (taken l entries order) ≡ false
    pub chosen : tie n (taken l entries order) ≡ false
    pub sound : singular n l (taken l entries order) ≡ false
    pub solves : read n l entries order lent ≡ told (answered (page_of n l (picked_rows n (taken l entries order)))) n l entries order lent

  pub page-given : gave (read n l entries order lent) ≡ true → Given
  unfolding read verdict
  page-given e = go (few n rows) refl (tie n rows) refl (singular n l rows) refl e
    where
      of : Bool → Bool → Bool → Verdict
      of f t s = cond f too_few (cond t tied (cond s dependent (answered page)))

      go : (f : Bool) → few n rows ≡ f → (t : Bool) → tie n rows ≡ t → (s : Bool) → singular n l rows ≡ s → gave (told (of f t s) n l entries order lent) ≡ true → Given
      go true f t p s q e = absurd (true≢false (sym e ∙ unfold gave told ended answer_numbers in refl))
      go false f true p s q e = absurd (true≢false (sym e ∙ unfold gave told ended answer_numbers in refl))
      go false f false p true q e = absurd (true≢false (sym e ∙ unfold gave told ended answer_numbers in refl))
      go false f false p false q e = record { enough = f; chosen = p; sound = q; solves = unfold read verdict in rw (f, p, q) }

-- ---- of lists of bytes, in any order

module _ (order : List ℕ → List ℕ) (n l : ℕ) (list : List ℕ) (lent : Lent) where
  -- a refusal leaves every buffer
  pub outcome-refused : (a : Answer) → refuses a ≡ checks n l list lent → record { answer = a; lent = lent } ≡ outcome_in order n l list lent
  unfolding outcome_in after
  outcome-refused a e = rw (← e)

  -- a list that passes is read
  pub outcome-read : checks n l list lent ≡ passes → outcome_in order n l list lent ≡ read n l (entries_of l list) (order (entries_of l list)) lent
  unfolding outcome_in after
  outcome-read p = rw p

  module _ (e : gave (outcome_in order n l list lent) ≡ true) where
    pub given-passes : checks n l list lent ≡ passes
    given-passes = go (checks n l list lent) refl
      where
        go : (k : Check) → checks n l list lent ≡ k → k ≡ passes
        go passes p = refl
        go (refuses a) p =
            let early : EarlyCheck (refuses a) = rw p at (checks_early n l list lent) in
            absurd (true≢false (sym e ∙ ap gave (sym (outcome-refused a (sym p))) ∙ none_given (record { answer = a; lent = lent }) early.0))

    pub given-read : Given n l (entries_of l list) (order (entries_of l list)) lent
    given-read = page-given n l (entries_of l list) (order (entries_of l list)) lent (ap gave (sym (outcome-read given-passes)) ∙ e)
