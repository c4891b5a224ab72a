-- Both versions of a twice-saved page. Document 02, wish 1: "When a reading gives a page and some rows don't agree with it, take those rows in
-- their old order as a list and read it by the same rules."
use Rattle.std.specs.Prelude.{ℕ, Bool, cond, not, ◌&&◌, List, leb, length}
use Rattle.octets.specs.Octets.{flat, over}
use Rattle.rows.specs.Rows.{shape, list_row_bytes, row_count, entries_of, rows_of}
use Rattle.reading.specs.declared.Answer.TheVariants as answer
use Rattle.reading.specs.Reading.{picked_rows, page_of}
use Rattle.reading.specs.Orders.{taken, in_list_order}
use Rattle.reading.specs.Outcome.{Lent, Outcome, Check, refuses, whole_rows, roomy, stray_from, read, after, gave}
use Rattle.apart.specs.Apart.{apart}
use Rattle.both.specs.declared.Both.{Both}

-- What is lent beside the buffers of the first reading: the second list, "its page, uses and roles have lent buffers of their own, ..;
-- one scratch serves both."
pub record Second : Type 0 where
  pub list : List ℕ
  pub page : List ℕ
  pub uses : List ℕ
  pub roles : List ℕ

-- Both results, and every lent buffer at exit.
pub record Pair : Type 0 where
  pub answers : Both
  pub lent : Lent
  pub second : Second

-- "one scratch serves both": what the second reading is lent.
abbrev pub lent_too : List ℕ → Second → Lent
lent_too scratch s = record { page = s.page; uses = s.uses; roles = s.roles; scratch = scratch }

-- The page that the rows of entries give, and the entries of those that don't agree with it.
abbrev pub given_by : ℕ → ℕ → List ℕ → List ℕ
given_by n l entries = page_of n l (picked_rows n (taken l entries (in_list_order entries)))

abbrev pub rest : ℕ → ℕ → List ℕ → List ℕ
rest n l entries = apart l (given_by n l entries) entries

-- ---- the checks

-- "3 also if the second list's buffer is shorter than the first list or another second buffer is shorter than the first reading needs".
unfoldable pub roomy_too : ℕ → ℕ → List ℕ → List ℕ → Second → Bool
roomy_too n l list scratch s = leb (length list) (length s.list) && roomy n l (row_count l list) (lent_too scratch s)

-- "in 3's old place."
unfoldable pub checks_both : ℕ → ℕ → List ℕ → Lent → Second → Check
checks_both n l list lent s =
    cond (not (shape n l)) (refuses answer.Shape)
    (cond (not (whole_rows l list)) (refuses answer.List)
    (cond (not (roomy_too n l list lent.scratch s && roomy n l (row_count l list) lent)) (refuses answer.Room)
    (stray_from n l 0 (rows_of l list))))

-- ---- both readings

-- "If the first answer isn't 0, the second is 5 with rank 0 and the second buffers stay untouched."
unfoldable pub alone : Outcome → Second → Pair
alone o s = record { answers = record { first = o.answer; second = answer.Few 0; rows = 0 }; lent = o.lent; second = s }

-- Entries copied to the second list and read "by the same rules". "The second list may be empty, which is 5."
unfoldable pub followed : ℕ → ℕ → List ℕ → Outcome → Second → Pair
followed n l entries o s =
    let p = read n l entries (in_list_order entries) (lent_too o.lent.scratch s) in
    record {
      answers = record { first = o.answer; second = p.answer; rows = length entries };
      lent = record { page = o.lent.page; uses = o.lent.uses; roles = o.lent.roles; scratch = p.lent.scratch };
      second = record { list = over (flat (list_row_bytes l) entries) s.list; page = p.lent.page; uses = p.lent.uses; roles = p.lent.roles };
    }

-- The entries read, and after them the rest.
unfoldable pub with_second : ℕ → ℕ → List ℕ → Outcome → Second → Pair
with_second n l entries o s = cond (gave o) (followed n l (rest n l entries) o s) (alone o s)

unfoldable pub both : ℕ → ℕ → List ℕ → Lent → Second → Pair
both n l list lent s =
    with_second n l (entries_of l list) (after (checks_both n l list lent s) n l (entries_of l list) (in_list_order (entries_of l list)) lent) s
