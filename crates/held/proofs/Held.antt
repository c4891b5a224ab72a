-- "A frame held on the screen is one frame": a row that repeats an earlier one changes nothing of the rows taken in list order, so nothing of the answer, its
-- rank and agreement, or the page. Among the marks it has 65535 uses and the role 0, and no other mark changes.
-- Assumes nothing.
use mathlib.Core.Path.{◌≡◌, refl, sym, ap, ◌∙◌}
use Prim.Native.Nat.{ℕ}
use mathlib.Core.Bool.{Bool, true, false}
use mathlib.Core.List.Memᴰ
use mathlib.Core.List.{List, [], ◌∷◌, ◌++◌, map}
use lib.ListN.{length, length-map}
use Rattle.space.specs.Lists.{select}
use Rattle.space.specs.Space.{spans}
use Rattle.space.proofs.Lists.{map-append, select-append, all_at}
use Rattle.rows.specs.Rows.{vector, entries_of}
use Rattle.reading.specs.Reading.{kept_after, kept, kept_rows, uses, picked}
use Rattle.reading.specs.Orders.{among, counts_after, counts, taken, in_list_order}
use Rattle.reading.specs.Marks.{uses_marks, roles_marks}
use Rattle.reading.specs.Verdict.{Verdict, too_few, tied, dependent, answered, verdict}
use Rattle.reading.specs.Outcome.{Lent, checks, passes, ended, told, read, outcome}
use Rattle.reading.proofs.Kept.{kept_append, kept_span, length-kept}
use Rattle.reading.proofs.Among.{among_mem}
use Rattle.reading.proofs.Counted.{length-counts, counts-append}
use Rattle.reading.proofs.Listed.{taken-listed}
use Rattle.reading.proofs.Given.{outcome-read}
use Rattle.held.specs.Listed.{spread}
use Rattle.held.specs.Held.{inserted, Alike}
use Rattle.held.proofs.Seen.{after_same, again_among}
use Rattle.held.proofs.Spread.{spread-inserted}
use Rattle.held.proofs.Listed.{marks_all}

-- where the same rows are taken, outcomes differ in marks at most
pub alike_read : (n l : ℕ) (one order two order' : List ℕ) → taken l two order' ≡ taken l one order → (lent : Lent) → Alike (read n l one order lent) (read n l two order' lent)
unfolding read
alike_read n l one order two order' same lent = rw same (go (verdict n l (taken l one order)))
  where
    go : (v : Verdict) → Alike (told v n l one order lent) (told v n l two order' lent)
    go too_few = unfold told ended in record { answer = rw same; page = refl; scratch = refl }
    go tied = unfold told ended in record { answer = rw same; page = refl; scratch = refl }
    go dependent = unfold told ended in record { answer = rw same; page = refl; scratch = refl }
    go (answered page) = unfold told ended in record { answer = rw same; page = refl; scratch = refl }

module _ (l : ℕ) (before : List ℕ) (e : ℕ) (after : List ℕ) (again : among before e ≡ true) where
  abbrev rows_of : List ℕ → List ℕ
  rows_of entries = map (vector l) entries

  -- it does not count, and what counts behind it is what counted without it
  pub held-counts : counts (before ++ e ∷ after) ≡ counts before ++ false ∷ counts_after before after
  held-counts = counts-append before (e ∷ after) ∙ unfold counts_after in rw again (ap (λ t. counts before ++ false ∷ t) (after_same after (before ++ (e ∷ [])) before (again_among before e again)))

  -- ---- the rows taken

  pub held-listed : taken l (before ++ e ∷ after) (in_list_order (before ++ e ∷ after)) ≡ taken l (before ++ after) (in_list_order (before ++ after))
  unfolding select
  held-listed =
      taken-listed l (before ++ e ∷ after)
      ∙ rw (held-counts, map-append (vector l) before (e ∷ after)) (select-append (counts before) (false ∷ counts_after before after) (rows_of before) (vector l e ∷ rows_of after) size)
      ∙ sym (select-append (counts before) (counts_after before after) (rows_of before) (rows_of after) size)
      ∙ rw (← counts-append before after, ← map-append (vector l) before after) (sym (taken-listed l (before ++ after)))
    where
      size : length (counts before) ≡ length (rows_of before)
      size = length-counts before ∙ sym (length-map before (vector l))

  -- ---- the marks

  held_kept : (d : ℕ) (vs : List ℕ) → spread d (kept (rows_of (before ++ e ∷ after))) vs ≡ inserted (length before) d (spread d (kept (rows_of (before ++ after))) vs)
  held_kept d vs =
      rw (map-append (vector l) before (e ∷ after), map-append (vector l) before after, kept_append (rows_of before) (vector l e ∷ rows_of after), kept_append (rows_of before) (rows_of after))
      (rw (unspanned, ← size) (spread-inserted d (kept (rows_of before)) (kept_after (kept_rows (rows_of before)) (rows_of after)) vs))
    where
      size : length (kept (rows_of before)) ≡ length before
      size = length-kept (rows_of before) ∙ length-map before (vector l)

      spanned : spans (kept_rows (rows_of before)) (vector l e) ≡ true
      spanned = all_at (spans (kept_rows (rows_of before))) (rows_of before) (kept_span (rows_of before)) (vector l e) (Memᴰ.map (vector l) (among_mem before e again))

      unspanned : kept_after (kept_rows (rows_of before)) (vector l e ∷ rows_of after) ≡ false ∷ kept_after (kept_rows (rows_of before)) (rows_of after)
      unspanned = unfold kept_after in rw spanned

  pub held-uses : uses_marks l (before ++ e ∷ after) (in_list_order (before ++ e ∷ after))
      ≡ inserted (length before) 65535 (uses_marks l (before ++ after) (in_list_order (before ++ after)))
  unfolding uses_marks
  held-uses =
      rw held-listed (marks_all l (before ++ e ∷ after) 65535 us ∙ held_kept 65535 us ∙ ap (inserted (length before) 65535) (sym (marks_all l (before ++ after) 65535 us)))
    where
      us : List ℕ
      us = uses (taken l (before ++ after) (in_list_order (before ++ after)))

  pub held-roles : (role : Bool → ℕ) (n : ℕ) → roles_marks role n l (before ++ e ∷ after) (in_list_order (before ++ e ∷ after))
      ≡ inserted (length before) 0 (roles_marks role n l (before ++ after) (in_list_order (before ++ after)))
  unfolding roles_marks
  held-roles role n =
      rw held-listed (marks_all l (before ++ e ∷ after) 0 rs ∙ held_kept 0 rs ∙ ap (inserted (length before) 0) (sym (marks_all l (before ++ after) 0 rs)))
    where
      rs : List ℕ
      rs = map role (picked n (taken l (before ++ after) (in_list_order (before ++ after))))

  -- ---- the outcome

  pub held-read : (n : ℕ) (lent : Lent)
      → Alike (read n l (before ++ after) (in_list_order (before ++ after)) lent) (read n l (before ++ e ∷ after) (in_list_order (before ++ e ∷ after)) lent)
  held-read n lent = alike_read n l (before ++ after) (in_list_order (before ++ after)) (before ++ e ∷ after) (in_list_order (before ++ e ∷ after)) held-listed lent

-- of lists of bytes, one with the row once more
pub held-outcome : (n l : ℕ) (list again : List ℕ) (lent : Lent) → checks n l list lent ≡ passes → checks n l again lent ≡ passes
    → (before : List ℕ) (e : ℕ) (after : List ℕ) → entries_of l list ≡ before ++ after → entries_of l again ≡ before ++ e ∷ after → among before e ≡ true
    → Alike (outcome n l list lent) (outcome n l again lent)
held-outcome n l list again lent p q before e after these those held =
    rw (outcome-read in_list_order n l list lent p, outcome-read in_list_order n l again lent q, these, those) (held-read l before e after held n lent)
