-- What the reader's steps ask and leave.
use Rattle.std.specs.Prelude.{ℕ, ◌≤◌, ◌≡◌, List, length}
use Rattle.octets.specs.Octets.{over}
use Rattle.doubles.specs.Doubles.{pairs_in}
use Rattle.rows.specs.Rows.{row_count, entries_of}
use Rattle.reading.specs.declared.Answer.{Answer}
use Rattle.reading.specs.Answer.{answer_numbers}
use Rattle.reading.specs.Reading as reading
use Rattle.reading.specs.Orders.{taken, in_list_order}
use Rattle.reading.specs.Marks.{uses_marks, places_given}
use Rattle.reading.specs.Outcome.{Lent, Outcome, checks, read, zeros}
use Rattle.reading.specs.Outcome as outcome
use Rattle.state.specs.Layout.{state_bytes, uses_part, places_part}

-- The lent buffers, and an outcome, by their parts.
abbrev pub buffers : List ℕ → List ℕ → List ℕ → List ℕ → Lent
buffers page uses roles scratch = record { page = page; uses = uses; roles = roles; scratch = scratch }

abbrev pub outcome_of : Answer → Lent → Outcome
outcome_of a lent = record { answer = a; lent = lent }

-- What a reading answers and leaves, with uses of any elements.
pub record Returned (T : Type 0) : Type 0 where
  pub answer : Answer
  pub page : List ℕ
  pub uses : List T
  pub roles : List ℕ
  pub scratch : List ℕ

abbrev pub returned : {T : Type 0} → Answer → List ℕ → List T → List ℕ → List ℕ → Returned T
returned a page uses roles scratch = record { answer = a; page = page; uses = uses; roles = roles; scratch = scratch }

-- The outcome for the uses that the lent elements stand for; at exit its uses are written back into these.
abbrev pub outcome_with : {T : Type 0} → (List T → List ℕ) → (List ℕ → List T → List T) → ℕ → ℕ → List ℕ → List ℕ → List T → List ℕ → List ℕ → Returned T
outcome_with counts written n l list page uses roles scratch =
    let o = outcome.outcome n l list (buffers page (counts uses) roles scratch) in
    returned o.answer o.lent.page (written o.lent.uses uses) o.lent.roles o.lent.scratch

-- The list passes the checks, with uses and scratch of some length, and there is a whole state.
pub record Passing (n l : ℕ) (list page roles state : List ℕ) : Type 0 where
  pub uses : List ℕ
  pub scratch : List ℕ
  pub passes : checks n l list (buffers page uses roles scratch) ≡ outcome.passes
  pub whole : state_bytes ≤ length state

-- The answer, the page and the roles are those of the reading, whatever uses and scratch are lent; and the state still tells the kept place of each
-- arrival and the uses of each kept place.
pub record Reads (n l : ℕ) (list page₀ roles₀ : List ℕ) (a : Answer) (page roles state : List ℕ) : Type 0 where
  pub reads : (uses scratch : List ℕ)
      → outcome_of a (buffers page (over (uses_marks l (entries_of l list) (in_list_order (entries_of l list))) uses) roles (over zeros scratch))
      ≡ read n l (entries_of l list) (in_list_order (entries_of l list)) (buffers page₀ uses roles₀ scratch)
  pub places : pairs_in (places_part (row_count l list) state) ≡ places_given l (entries_of l list) (in_list_order (entries_of l list))
  pub counts : pairs_in (uses_part (answer_numbers a).rank state) ≡ reading.uses (taken l (entries_of l list) (in_list_order (entries_of l list)))
