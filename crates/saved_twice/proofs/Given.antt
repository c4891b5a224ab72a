-- Where the first reading gave a page: the checks were passed, and the rows that do not agree with it were copied and read.
-- Assumes nothing.
use mathlib.Core.Path.{◌≡◌, refl, sym, ap, ◌∙◌}
use Prim.Native.Nat.{ℕ, ◌*◌}
use mathlib.Core.Bool.{Bool, true, false, cond, true≢false}
use mathlib.Core.List.{List}
use lib.Dec.{eqb}
use lib.ListN.{length}
use Rattle.octets.specs.Octets.{flat}
use Rattle.octets.proofs.Runs.{length-flat, take-over}
use Rattle.rows.specs.Rows.{list_row_bytes, entries_of}
use Rattle.reading.specs.Answer.{answer_numbers}
use Rattle.reading.specs.Orders.{in_list_order}
use Rattle.reading.specs.Outcome.{Lent, Outcome, Check, passes, refuses, read, after, gave}
use Rattle.reading.proofs.Writes.{EarlyCheck}
use Rattle.reading.proofs.Given.{none_given}
use Rattle.both.specs.Both as spec
use Rattle.both.specs.Both.{Second, rest, checks_both, alone, followed, with_second}
use Rattle.saved_twice.specs.Added.{first_of}
use Rattle.saved_twice.specs.Saved.{second_list}
use Rattle.both.proofs.Pairing.{both_early}

-- ---- the first answer decides

module _ (n l : ℕ) (entries : List ℕ) (o : Outcome) (s : Second) where
  same_answer : (with_second n l entries o s).answers.first ≡ o.answer
  unfolding with_second followed alone
  same_answer = go (gave o)
    where
      go : (b : Bool) → (cond b (followed n l (rest n l entries) o s) (alone o s)).answers.first ≡ o.answer
      go true = refl
      go false = refl

  pub same_gave : gave (first_of (with_second n l entries o s)) ≡ gave o
  unfolding gave
  same_gave = ap (λ a. eqb (answer_numbers a).number 0) same_answer

-- ---- a page was given

module _ (n l : ℕ) (list : List ℕ) (lent : Lent) (s : Second) (page : gave (first_of (spec.both n l list lent s)) ≡ true) where
  abbrev entries : List ℕ
  entries = entries_of l list

  abbrev order : List ℕ
  order = in_list_order entries

  -- after the checks of both
  given : gave (after (checks_both n l list lent s) n l entries order lent) ≡ true
  unfolding spec.both
  given = sym (same_gave n l entries (after (checks_both n l list lent s) n l entries order lent) s) ∙ page

  pub both-passes : checks_both n l list lent s ≡ passes
  both-passes = go (checks_both n l list lent s) (both_early n l list lent s) given
    where
      go : (k : Check) → EarlyCheck k → gave (after k n l entries order lent) ≡ true → k ≡ passes
      go passes e g = refl
      go (refuses a) e g = absurd (true≢false (sym g ∙ (unfold after in none_given (record { answer = a; lent = lent }) e.0)))

  pub first-given : gave (read n l (entries_of l list) (in_list_order (entries_of l list)) lent) ≡ true
  unfolding after
  first-given = rw both-passes at given

  pub followed-both : spec.both n l list lent s ≡ followed n l (rest n l (entries_of l list)) (read n l (entries_of l list) (in_list_order (entries_of l list)) lent) s
  unfolding spec.both after with_second
  followed-both = rw (both-passes, first-given)

  -- the second list, as it was copied
  pub second-list : second_list l (spec.both n l list lent s) ≡ flat (list_row_bytes l) (rest n l (entries_of l list))
  second-list =
      ap (second_list l) followed-both ∙ (unfold followed in take-over (flat (list_row_bytes l) (rest n l entries)) s.list (length (rest n l entries) * list_row_bytes l) (length-flat (list_row_bytes l) (rest n l entries)))
