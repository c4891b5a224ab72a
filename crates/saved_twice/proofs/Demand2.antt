-- Demand 2 for each reading over its own list: the first is the plain reading of the list, and the second the plain reading of the second
-- list. So what is proved of `outcome` is proved of both.
-- Assumes nothing.
use mathlib.Core.Path.{◌≡◌, refl, sym, ap, ◌∙◌}
use Prim.Native.Nat.{ℕ}
use mathlib.Core.Bool.{Bool, true, false, cond}
use mathlib.Core.List.{List}
use Rattle.space.specs.Lists.{Below}
use Rattle.octets.specs.Octets.{over}
use Rattle.octets.proofs.Runs.{over-over}
use Rattle.rows.specs.Rows.{entries_of}
use Rattle.reading.specs.declared.Answer.TheVariants as answer
use Rattle.reading.specs.Orders.{taken, in_list_order}
use Rattle.reading.specs.Verdict.{Verdict, too_few, tied, dependent, answered, verdict}
use Rattle.reading.specs.Outcome.{Lent, Outcome, zeros, checks, ended, told, read, after, outcome_in, outcome, gave}
use Rattle.reading.proofs.Writes.{read-late}
use Rattle.reading.proofs.Given.{outcome-read, given-passes}
use Rattle.both.specs.Both as spec
use Rattle.both.specs.Both.{Second, lent_too, given_by, rest, roomy_too, checks_both, alone, followed, with_second}
use Rattle.saved_twice.specs.Added.{first_of, second_of}
use Rattle.both.specs.Parts.{Passing}
use Rattle.saved_twice.specs.Saved.{second_list}
use Rattle.saved_twice.proofs.Given.{same_gave, both-passes, followed-both, second-list}
use Rattle.both.proofs.Rests.{rest_read}
use Rattle.both.proofs.Pairing.{asked-fits, plain_check, passing}

-- the scratch that a reading is lent does not matter, beyond what it clears
scratch_again : (v : Verdict) (n l : ℕ) (entries order scratch : List ℕ) (s : Second)
    → told v n l entries order (lent_too (over zeros scratch) s) ≡ told v n l entries order (lent_too scratch s)
unfolding told ended
scratch_again too_few n l entries order scratch s = rw (over-over zeros zeros scratch refl)
scratch_again tied n l entries order scratch s = rw (over-over zeros zeros scratch refl)
scratch_again dependent n l entries order scratch s = rw (over-over zeros zeros scratch refl)
scratch_again (answered page) n l entries order scratch s = rw (over-over zeros zeros scratch refl)

module _ (n l : ℕ) (list : List ℕ) (lent : Lent) (s : Second) where
  abbrev entries : List ℕ
  entries = entries_of l list

  abbrev order : List ℕ
  order = in_list_order entries

  -- the entries that the second reading has
  abbrev left : List ℕ
  left = rest n l entries

  -- the reading after the checks of both
  abbrev checked : Outcome
  checked = after (checks_both n l list lent s) n l entries order lent

  -- "If the first answer isn't 0, the second is 5 with rank 0 and the second buffers stay untouched."
  pub no_second : gave (first_of (spec.both n l list lent s)) ≡ false
      → ((spec.both n l list lent s).answers.second ≡ answer.Few 0) × ((spec.both n l list lent s).answers.rows ≡ 0) × ((spec.both n l list lent s).second ≡ s)
  unfolding spec.both with_second alone
  no_second e = let none : gave checked ≡ false = sym (same_gave n l entries checked s) ∙ e in rw none (refl, refl, refl)

  -- ---- the first reading, however it ends

  module _ (room : roomy_too n l list lent.scratch s ≡ true) where
    abbrev plain : Outcome
    plain = outcome n l list lent

    same_checks : checks_both n l list lent s ≡ checks n l list lent
    unfolding checks_both checks
    same_checks = rw room

    with_plain : spec.both n l list lent s ≡ with_second n l entries plain s
    unfolding spec.both outcome_in
    with_plain = rw same_checks

    -- the second reading clears the scratch that the first has cleared
    scratch_same : gave plain ≡ true → (read n l left (in_list_order left) (lent_too plain.lent.scratch s)).lent.scratch ≡ plain.lent.scratch
    scratch_same g =
        let first : plain.lent.scratch ≡ over zeros lent.scratch = ap (λ (o : Outcome). o.lent.scratch) (outcome-read in_list_order n l list lent (given-passes in_list_order n l list lent g)) ∙ (read-late n l entries order lent).scratch in
        (read-late n l left (in_list_order left) (lent_too plain.lent.scratch s)).scratch ∙ rw first (over-over zeros zeros lent.scratch refl)

    -- where the second buffers have room, the first reading is the plain one
    pub first_reads : first_of (spec.both n l list lent s) ≡ outcome n l list lent
    first_reads = ap first_of with_plain ∙ (unfold with_second followed alone in go (gave plain) refl)
      where
        go : (b : Bool) → gave plain ≡ b → first_of (cond b (followed n l left plain s) (alone plain s)) ≡ plain
        go true e =
            unfold followed in λ i. record {
              answer = plain.answer;
              lent = record { page = plain.lent.page; uses = plain.lent.uses; roles = plain.lent.roles; scratch = scratch_same e i };
            }
        go false e = unfold alone in refl

  -- ---- the second, where a page was given

  module _ (page : gave (first_of (spec.both n l list lent s)) ≡ true) where
    -- the one scratch, cleared
    cleared : (read n l entries order lent).lent.scratch ≡ over zeros lent.scratch
    cleared = (read-late n l entries order lent).scratch

    pub second-read : second_of (spec.both n l list lent s)
        ≡ read n l (rest n l (entries_of l list)) (in_list_order (rest n l (entries_of l list))) (lent_too lent.scratch s)
    second-read =
        ap second_of (followed-both n l list lent s page)
        ∙ (unfold followed in rw cleared (unfold read in scratch_again (verdict n l (taken l left (in_list_order left))) n l left (in_list_order left) lent.scratch s))

    has_room : Passing n l list s lent.scratch
    has_room =
        let passed = both-passes n l list lent s page in
        passing n l list lent s (asked-fits n l list lent s passed) (plain_check n l list lent s passed) lent.scratch refl

    -- its reading is the plain one of the second list
    pub second_reads : Below 256 list → second_of (spec.both n l list lent s) ≡ outcome n l (second_list l (spec.both n l list lent s)) (lent_too lent.scratch s)
    second_reads b =
        second-read ∙ sym (rest_read n l list s lent.scratch has_room b (given_by n l entries))
        ∙ ap (λ (t : List ℕ). outcome n l t (lent_too lent.scratch s)) (sym (second-list n l list lent s page))
