-- The whole outcome of a reading, in any order of its rows: its answer, and every lent buffer at exit. Document 01, "Answer numbers of a reading".
use Rattle.std.specs.Prelude.{ℕ, suc, ◌*◌, ◌/◌, ◌%◌, ◌^◌, Bool, cond, not, ◌&&◌, List, [], ◌∷◌, eqb, leb, length, replicate}
use Rattle.octets.specs.Octets.{flat, over}
use Rattle.places.specs.Places.{most_rows}
use Rattle.rows.specs.Rows.{shape, list_row_bytes, row_count, entries_of, rows_of, constraint}
use Rattle.reading.specs.declared.Answer.{Answer}
use Rattle.reading.specs.declared.Answer.TheVariants as answer
use Rattle.reading.specs.Answer.{answer_numbers}
use Rattle.reading.specs.Reading.{rank, agreement}
use Rattle.reading.specs.Orders.{taken, in_list_order}
use Rattle.reading.specs.Marks.{uses_marks, roles_marks, plain, telling}
use Rattle.reading.specs.Verdict.{Verdict, too_few, tied, dependent, answered, verdict}

-- The lent buffers that a reading may write.
pub record Lent : Type 0 where
  pub page : List ℕ
  pub uses : List ℕ
  pub roles : List ℕ
  pub scratch : List ℕ

-- What a reading answers, and the buffers at exit.
pub record Outcome : Type 0 where
  pub answer : Answer
  pub lent : Lent

-- "scratch (at least 32,768 bytes)".
unfoldable pub scratch_bytes : ℕ
scratch_bytes = 32768

-- ---- the checks

-- What the checks say: the list passes, or the first answer that applies.
pub data Check : Type 0 where
  passes : Check
  refuses : Answer → Check

-- Not 2 list, "length no multiple of 8+L, or over 512 rows", where document 02, wish 3, has 12+L; of a list of so many bytes.
unfoldable pub whole_length : ℕ → ℕ → Bool
whole_length l size = eqb (size % list_row_bytes l) 0 && leb (size / list_row_bytes l) most_rows

abbrev pub whole_rows : ℕ → List ℕ → Bool
whole_rows l list = whole_length l (length list)

-- "the page room (at least nL bytes), uses (at least m 16-bit numbers for m rows), roles (at least m bytes), scratch (at least
-- 32,768 bytes)", of the page's bytes, the rows, and the lengths of the four.
unfoldable pub room_for : ℕ → ℕ → ℕ → ℕ → ℕ → ℕ → Bool
room_for bytes m page uses roles scratch = (leb bytes page && leb m uses) && (leb m roles && leb scratch_bytes scratch)

abbrev pub roomy : ℕ → ℕ → ℕ → Lent → Bool
roomy n l m lent = room_for (n * l) m (length lent.page) (length lent.uses) (length lent.roles) (length lent.scratch)

-- 4 stray, "a constraint bit worth 2^n or more", with the "first such arrival number", from arrival number i on.
unfoldable pub stray_from : ℕ → ℕ → ℕ → List ℕ → Check
stray_from n l i [] = passes
stray_from n l i (r ∷ rows) = cond (leb (2 ^ n) (constraint l r)) (refuses (answer.Stray (record { 0 = i }))) (stray_from n l (suc i) rows)

-- "The first that applies is given, in this order".
unfoldable pub checks : ℕ → ℕ → List ℕ → Lent → Check
checks n l list lent =
    cond (not (shape n l)) (refuses answer.Shape)
    (cond (not (whole_rows l list)) (refuses answer.List)
    (cond (not (roomy n l (row_count l list) lent)) (refuses answer.Room)
    (stray_from n l 0 (rows_of l list))))

-- ---- the buffers at exit

-- "They set the first 32,768 scratch bytes to zero."
unfoldable pub zeros : List ℕ
zeros = replicate scratch_bytes 0

-- What the numbers 5, 6, 7 and 0 leave: "All further bytes stay."
unfoldable pub ended : ℕ → ℕ → List ℕ → List ℕ → Lent → Answer → (Bool → ℕ) → List ℕ → Outcome
ended n l entries order lent a role page =
    record {
      answer = a;
      lent =
          record {
            page = over page lent.page;
            uses = over (uses_marks l entries order) lent.uses;
            roles = over (roles_marks role n l entries order) lent.roles;
            scratch = over zeros lent.scratch;
          };
    }

-- ---- the outcome

-- Of a verdict on the rows taken. "Only 0 writes the page, into the first nL bytes."
unfoldable pub told : Verdict → ℕ → ℕ → List ℕ → List ℕ → Lent → Outcome
told too_few n l entries order lent = ended n l entries order lent (answer.Few (rank (taken l entries order))) plain []
told tied n l entries order lent = ended n l entries order lent (answer.Tie (rank (taken l entries order))) plain []
told dependent n l entries order lent = ended n l entries order lent (answer.Singular (rank (taken l entries order))) telling []
told (answered page) n l entries order lent =
    ended n l entries order lent (answer.Page (rank (taken l entries order)) (agreement l page (taken l entries order))) telling (flat l page)

-- Of entries whose rows pass the checks, taken in an order.
unfoldable pub read : ℕ → ℕ → List ℕ → List ℕ → Lent → Outcome
read n l entries order lent = told (verdict n l (taken l entries order)) n l entries order lent

-- "Numbers 1 to 4 write nothing."
unfoldable pub after : Check → ℕ → ℕ → List ℕ → List ℕ → Lent → Outcome
after (refuses a) n l entries order lent = record { answer = a; lent = lent }
after passes n l entries order lent = read n l entries order lent

-- Of any list of bytes and any lent buffers, in any order.
unfoldable pub outcome_in : (List ℕ → List ℕ) → ℕ → ℕ → List ℕ → Lent → Outcome
outcome_in order n l list lent = after (checks n l list lent) n l (entries_of l list) (order (entries_of l list)) lent

-- "Rows are taken in list order."
abbrev pub outcome : ℕ → ℕ → List ℕ → Lent → Outcome
outcome n l list lent = outcome_in in_list_order n l list lent

-- Whether it gives a page.
unfoldable pub gave : Outcome → Bool
gave o = eqb (answer_numbers o.answer).number 0
