-- The frauds of document 01, "What the contracts settle": each is a reader of the same kind as `outcome`, and must be caught.
use Rattle.std.specs.Prelude.{ℕ, ◌≡◌, true, List, length, take, replicate}
use Rattle.octets.specs.Octets.{over}
use Rattle.rows.specs.Rows.{symbols, list_row_bytes, row_count}
use Rattle.rows.specs.Shift.{shifted_list}
use Rattle.reading.specs.declared.Answer.{Answer}
use Rattle.reading.specs.declared.Answer.TheVariants as answer
use Rattle.reading.specs.Outcome.{Lent, Outcome, roomy, outcome}
use Rattle.reading.specs.Added.{added}
use Rattle.reading.specs.Worked.{Case, list_of}

abbrev pub Reader : Type 0
Reader = ℕ → ℕ → List ℕ → Lent → Outcome

-- ---- parts of an outcome replaced

unfoldable pub with_answer : (Answer → Answer) → Outcome → Outcome
with_answer f o = record { answer = f o.answer; lent = o.lent }

unfoldable pub with_page : List ℕ → Outcome → Outcome
with_page page o =
    record {
      answer = o.answer;
      lent = record { page = page; uses = o.lent.uses; roles = o.lent.roles; scratch = o.lent.scratch };
    }

unfoldable pub with_uses : List ℕ → Outcome → Outcome
with_uses uses o =
    record {
      answer = o.answer;
      lent = record { page = o.lent.page; uses = uses; roles = o.lent.roles; scratch = o.lent.scratch };
    }

-- the rank n, where the answer has one
unfoldable pub ranked : ℕ → Answer → Answer
ranked n (answer.Page r g) = answer.Page n g
ranked n answer.Shape = answer.Shape
ranked n answer.List = answer.List
ranked n answer.Room = answer.Room
ranked n (answer.Stray place) = answer.Stray place
ranked n (answer.Few r) = answer.Few n
ranked n (answer.Tie r) = answer.Tie n
ranked n (answer.Singular r) = answer.Singular n

-- the agreement m, where the answer has one
unfoldable pub agreeing : ℕ → Answer → Answer
agreeing m (answer.Page r g) = answer.Page r m
agreeing m answer.Shape = answer.Shape
agreeing m answer.List = answer.List
agreeing m answer.Room = answer.Room
agreeing m (answer.Stray place) = answer.Stray place
agreeing m (answer.Few r) = answer.Few r
agreeing m (answer.Tie r) = answer.Tie r
agreeing m (answer.Singular r) = answer.Singular r

-- ---- the frauds

-- "A reader that refuses everything,"
unfoldable pub refuses_all : Reader
refuses_all n l list lent = record { answer = answer.Shape; lent = lent }

-- "or does nothing": it has no rows yet, it says.
unfoldable pub does_nothing : Reader
does_nothing n l list lent = record { answer = answer.Few 0; lent = lent }

-- "A reader with one fixed page": all else is right.
unfoldable pub fixed_page : List ℕ → Reader
fixed_page fixed n l list lent = with_page (over fixed lent.page) (outcome n l list lent)

-- "One that weighs the first row and pretends with the rest": they agree, it says.
unfoldable pub first_row : Reader
first_row n l list lent = with_answer (agreeing (row_count l list)) (outcome n l (take (list_row_bytes l) list) lent)

-- "or invents uses,": 0 for every row;
unfoldable pub invents_uses : Reader
invents_uses n l list lent = with_uses (over (replicate (row_count l list) 0) lent.uses) (outcome n l list lent)

-- "rank": as many as there are symbols;
unfoldable pub invents_rank : Reader
invents_rank n l list lent = with_answer (ranked n) (outcome n l list lent)

-- "or agreement": every row.
unfoldable pub invents_agreement : Reader
invents_agreement n l list lent = with_answer (agreeing (row_count l list)) (outcome n l list lent)

-- ---- how they are caught

-- A reader differs from the reading at a worked case, whatever is lent that has room.
abbrev pub Differs : Reader → Case → Type 0
Differs reader c = (lent : Lent) → roomy c.n 1 (length c.rows) lent ≡ true → reader c.n 1 (list_of c) lent ≡ outcome c.n 1 (list_of c) lent → ⊥

-- A reader keeps demand 3's law.
abbrev pub KeepsShift : Reader → Type 0
KeepsShift reader = (n l : ℕ) (list : List ℕ) (lent : Lent) (second : List ℕ) → reader n l (shifted_list l (symbols n l second) list) lent ≡ added second (reader n l list lent)
