-- How a reading's end makes the outcome whole, whatever elements hold the uses.
-- Assumes nothing.
use mathlib.Core.Path.{◌≡◌, refl, sym, ap, ◌∙◌}
use Prim.Native.Nat.{ℕ, ◌/◌, ◌≤◌}
use native.Mathlib.Omega.{arith}
use mathlib.Core.List.{List, [], ◌++◌}
use lib.ListN.{length}
use Rattle.std.specs.Prelude.{Result, Ok, Err}
use Rattle.space.specs.Lists.{Below}
use Rattle.octets.specs.Octets.{flat, over}
use Rattle.octets.proofs.Runs.{length-numbers, over_none}
use Rattle.octets.proofs.Lay.{over-all}
use Rattle.doubles.specs.Doubles.{pairs_in}
use Rattle.rows.specs.Rows.{row_count, entries_of}
use Rattle.rows.proofs.Lists.{length-entries_of}
use Rattle.reading.specs.declared.Answer.{Answer}
use Rattle.reading.specs.Answer.{answer_numbers}
use Rattle.reading.specs.Orders.{in_list_order}
use Rattle.reading.specs.Marks.{uses_marks}
use Rattle.reading.specs.Outcome.{scratch_bytes, Lent, Outcome, Check, passes, refuses, checks, outcome, zeros}
use Rattle.reading.proofs.Checks.{passed, roomy-fits, Fits}
use Rattle.reading.proofs.Given.{outcome-refused, outcome-read}
use Rattle.reading.proofs.Spread.{length_marks}
use Rattle.reading.proofs.Writes.{read-late}
use Rattle.state.specs.Layout.{state_bytes, uses_part, places_part}
use Rattle.views.proofs.Longer.{uses-longer, places-longer}
use Rattle.checks.specs.Checks.{check_of, all_checks}
use Rattle.checks.proofs.Gating.{checks_are}
use Rattle.marks.specs.Mark.{uses_after_in, pairs_after}
use Rattle.marks.specs.Uses.{Written, KeptBack}
use Rattle.marks.proofs.Written as marks
use Rattle.concluding.proofs.Marks.{uses-after-in}
use Rattle.reader.specs.Reader.{buffers, outcome_of, Returned, returned, outcome_with, Reads}
use Rattle.reader.specs.Pairs.{pair_counts, counted, in_pairs}

-- a longer state tells the same
pub reads-longer : (n l : ℕ) (list page₀ roles₀ : List ℕ) (a : Answer) (page roles state more : List ℕ) → state_bytes ≤ length state
    → Reads n l list page₀ roles₀ a page roles state → Reads n l list page₀ roles₀ a page roles (state ++ more)
reads-longer n l list page₀ roles₀ a page roles state more whole R = record {
  reads = R.reads;
  places = ap pairs_in (places-longer state more whole (row_count l list)) ∙ R.places;
  counts = ap pairs_in (uses-longer state more whole (answer_numbers a).rank) ∙ R.counts;
}

-- ---- whatever elements hold the uses

module _ {T : Type 0} {room_in : ℕ → ℕ} {counts : List T → List ℕ} {put_at : ℕ → ℕ → List T → List T} {written : List ℕ → List T → List T} {uses : List T}
    (W : Written room_in put_at written) (K : KeptBack room_in counts written uses) (n l : ℕ) (list page roles scratch : List ℕ) where
  -- what is lent, to the reading
  abbrev own : Lent
  own = buffers page (counts uses) roles scratch

  abbrev order : List ℕ
  order = in_list_order (entries_of l list)

  -- what the checks said
  pub checks_say : (said : Result (Unit {0}) Answer) (room : ℕ) → check_of said ≡ all_checks n l list (length page) room (length roles) (length scratch)
      → room ≡ room_in (length uses) → check_of said ≡ checks n l list (buffers page (counts uses) roles scratch)
  checks_say said room e r = e ∙ ap (λ (k : ℕ). all_checks n l list (length page) k (length roles) (length scratch)) (r ∙ sym K.room) ∙ checks_are n l list own

  pub says_passed : (said : Result (Unit {0}) Answer) (room : ℕ) → check_of said ≡ all_checks n l list (length page) room (length roles) (length scratch)
      → room ≡ room_in (length uses) → said ≡ Ok tt → checks n l list (buffers page (counts uses) roles scratch) ≡ passes
  unfolding check_of
  says_passed said room e r is = sym (checks_say said room e r) ∙ ap check_of is

  -- a refusal leaves every buffer
  pub ends_refused : (a : Answer) → check_of (Err a) ≡ checks n l list (buffers page (counts uses) roles scratch)
      → returned a page uses roles scratch ≡ outcome_with counts written n l list page uses roles scratch
  unfolding check_of
  ends_refused a e = rw (← outcome-refused in_list_order n l list own a e) (ap (λ (us : List T). returned a page us roles scratch) (sym as_lent))
    where
      as_lent : written (counts uses) uses ≡ uses
      as_lent = ap (λ (us : List ℕ). written us uses) (sym (over_none (counts uses))) ∙ K.back [] (omega arith) ∙ W.nothing uses

  module _ (pass : checks n l list (buffers page (counts uses) roles scratch) ≡ passes) where
    fits : Fits n l (row_count l list) own
    fits = roomy-fits n l (row_count l list) own (passed n l list own pass).roomed

    pub wide : scratch_bytes ≤ length scratch
    wide = fits.scratch

    -- there is room for each row's uses, which the end writes
    pub ends_read : (a : Answer) (page₁ roles₁ state : List ℕ) (uses₁ : List T) (scratch₁ : List ℕ) → Reads n l list page roles a page₁ roles₁ state
        → uses₁ ≡ uses_after_in room_in written (places_part (row_count l list) state) (uses_part (answer_numbers a).rank state) uses → scratch₁ ≡ over zeros scratch
        → returned a page₁ uses₁ roles₁ scratch₁ ≡ outcome_with counts written n l list page uses roles scratch
    ends_read a page₁ roles₁ state uses₁ scratch₁ R e z = rw (← whole, z) (ap (λ (us : List T). returned a page₁ us roles₁ (over zeros scratch)) so_written)
      where
        marks_in : List ℕ
        marks_in = uses_marks l (entries_of l list) order

        whole : outcome_of a (buffers page₁ (over marks_in (counts uses)) roles₁ (over zeros scratch)) ≡ outcome n l list own
        whole = R.reads (counts uses) scratch ∙ sym (outcome-read in_list_order n l list own pass)

        so_written : uses₁ ≡ written (over marks_in (counts uses)) uses
        so_written =
            e ∙ uses-after-in l (entries_of l list) order (places_part (row_count l list) state) (uses_part (answer_numbers a).rank state) R.places R.counts room_in written uses
            (omega (arith, fits.uses, K.room, length-entries_of l list))
            ∙ sym (K.back marks_in (omega (arith, fits.uses, K.room, length_marks l list order)))

-- ---- as numbers

module _ (n l : ℕ) (list page uses roles scratch : List ℕ) where
  abbrev lent_here : Lent
  lent_here = buffers page uses roles scratch

  abbrev read_here : Outcome
  read_here = outcome n l list lent_here

  abbrev order_here : List ℕ
  order_here = in_list_order (entries_of l list)

  -- the outcome has as many uses as were lent
  all_written : (k : Check) → checks n l list lent_here ≡ k → over read_here.lent.uses uses ≡ read_here.lent.uses
  all_written passes p =
      let is : read_here.lent.uses ≡ over (uses_marks l (entries_of l list) order_here) uses =
      ap (λ (o : Outcome). o.lent.uses) (outcome-read in_list_order n l list lent_here p) ∙ (read-late n l (entries_of l list) order_here lent_here).uses in
      let few : row_count l list ≤ length uses = (roomy-fits n l (row_count l list) lent_here (passed n l list lent_here p).roomed).uses in
      ap (λ (us : List ℕ). over us uses) is
      ∙ (marks.whole_back uses).back (uses_marks l (entries_of l list) order_here) (omega (arith, few, length_marks l list order_here)) ∙ sym is
  all_written (refuses a) p =
      let is : read_here.lent.uses ≡ uses = sym (ap (λ (o : Outcome). o.lent.uses) (outcome-refused in_list_order n l list lent_here a (sym p))) in
      ap (λ (us : List ℕ). over us uses) is ∙ over-all uses uses refl ∙ sym is

  pub in_numbers_is : (r : Returned ℕ) → r ≡ outcome_with (λ us. us) over n l list page uses roles scratch
      → outcome_of r.answer (buffers r.page r.uses r.roles r.scratch) ≡ outcome n l list (buffers page uses roles scratch)
  in_numbers_is r e =
      ap (λ (x : Returned ℕ). outcome_of x.answer (buffers x.page x.uses x.roles x.scratch)) e
      ∙ ap (λ (us : List ℕ). outcome_of read_here.answer (buffers read_here.lent.page us read_here.lent.roles read_here.lent.scratch)) (all_written (checks n l list lent_here) refl)

-- ---- as pairs

module _ (n l : ℕ) (list : List ℕ) (lent : Lent) where
  pub in_pairs_is : (r : Returned ℕ) → r ≡ outcome_with pairs_in (λ uses bytes. over (flat 2 uses) bytes) n l list lent.page lent.uses lent.roles lent.scratch
      → outcome_of r.answer (buffers r.page r.uses r.roles r.scratch) ≡ in_pairs n l list lent
  unfolding in_pairs pair_counts
  in_pairs_is r e = ap (λ (x : Returned ℕ). outcome_of x.answer (buffers x.page x.uses x.roles x.scratch)) e

  module _ (low : Below 256 lent.uses) where
    pub counts-long : length (counted lent).uses ≡ length lent.uses / 2
    unfolding pair_counts
    counts-long = length-numbers 2 (length lent.uses / 2) lent.uses

    pub pairs-refused : (a : Answer) → check_of (Err a) ≡ checks n l list (counted lent) → outcome_of a lent ≡ in_pairs n l list lent
    unfolding pair_counts
    pairs-refused a e =
        in_pairs_is (returned a lent.page lent.uses lent.roles lent.scratch)
        (ends_refused marks.in_pairs (marks.pairs_back lent.uses low) n l list lent.page lent.roles lent.scratch a e)

    pub pairs_end : (pass : checks n l list (counted lent) ≡ passes) (a : Answer) (page roles state uses scratch : List ℕ) → Reads n l list lent.page lent.roles a page roles state
        → uses ≡ pairs_after (places_part (row_count l list) state) (uses_part (answer_numbers a).rank state) lent.uses → scratch ≡ over zeros lent.scratch
        → outcome_of a (buffers page uses roles scratch) ≡ in_pairs n l list lent
    unfolding pair_counts pairs_after
    pairs_end pass a page roles state uses scratch R e z =
        in_pairs_is (returned a page uses roles scratch)
        (ends_read marks.in_pairs (marks.pairs_back lent.uses low) n l list lent.page lent.roles lent.scratch pass a page roles state uses scratch R e z)
