-- Where a state holds the rows that were taken, the tail ends as the reading does: the same answer, roles and page, whatever uses and scratch are
-- lent. By the three tests of a verdict.
-- Assumes nothing.
use mathlib.Core.Path.{◌≡◌, refl, sym, ap, ◌∙◌}
use Prim.Native.Nat.{ℕ, ◌*◌}
use native.Mathlib.Nat.{mul-div_cancel}
use native.Mathlib.Omega.{arith}
use mathlib.Core.Bool.{Bool, true, false, cond}
use mathlib.Core.List.{List}
use lib.ListN.{length, take, replicate}
use Rattle.octets.specs.Octets.{flat, over, numbers}
use Rattle.octets.proofs.Runs.{length-flat, numbers-flat, take-over, length_over}
use Rattle.doubles.specs.Doubles.{pairs_in}
use Rattle.rows.specs.Rows.{symbols, row_count, entries_of, rows_of}
use Rattle.rows.specs.Bytes.{cut}
use Rattle.rows.proofs.Lists.{length-entries_of}
use Rattle.rows.proofs.Shape.{shape_range}
use Rattle.reading.specs.Reading.{rank, uses, picked_rows, page_of, agreement, few, tie, singular}
use Rattle.reading.specs.Orders.{taken}
use Rattle.reading.specs.Marks.{uses_marks, roles_marks, telling}
use Rattle.reading.specs.Verdict.{too_few, tied, dependent, answered, verdict}
use Rattle.reading.specs.Outcome.{Lent, Outcome, zeros, ended, told, read}
use Rattle.reading.proofs.Checks.{most-512}
use Rattle.reading.proofs.Page.{length-page_of, page_of_below}
use Rattle.reading.proofs.Spread.{length-roles}
use Rattle.tally.specs.Tally.{most_kept}
use Rattle.views.proofs.Told.{part_below, order-told}
use Rattle.views.proofs.Front.{order-front}
use Rattle.state.specs.Layout.{uses_part, places_part, order_part, uses_at}
use Rattle.state.proofs.Sizes.{sizes}
use Rattle.std.specs.Prelude.{Result, Ok, Err}
use Rattle.choose.specs.declared.Unpicked.{Unpicked}
use Rattle.choose.specs.declared.Unpicked.TheVariants.{Few, Tie}
use Rattle.choose.specs.Pick.{least, choice_of}
use Rattle.choose.proofs.Chosen.{choice_is}
use Rattle.roles.specs.Role.{role_by}
use Rattle.agreement.specs.Agreement.{agreement_of}
use Rattle.agreement.proofs.Taken.{agreement-taken}
use Rattle.same_page.specs.SameRows.{SameRows}
use Rattle.chosen.specs.Chosen.{chosen}
use Rattle.entering.specs.Enter.{slot_bytes}
use Rattle.solve.specs.declared.Unsolved.TheVariants.{Singular}
use Rattle.solve.specs.Solve.{solvable, solve_page, solve_slots}
use Rattle.solved.proofs.Answers.{picked-solvable, solve_answer_lem, solve_page_lem}
use Rattle.holding.proofs.Tells.{counts_tell}
use Rattle.tail.specs.Tail.{Ending, choice_in, roles_in, settled_by, settled, concluded, finished}
use Rattle.concluding.specs.Concluding.{Ordered, Concludes}
use Rattle.concluding.proofs.Marks.{roles-after}
use Rattle.concluding.proofs.Chosen.{chosen-any}
use Rattle.concluding.proofs.Left.{slots_short, places_in_lem}

module _ (n l : ℕ) (list order : List ℕ) (m : ℕ) (state roles page : List ℕ) (C : Concludes n l list order m state roles page) where
  abbrev O : Ordered n l list order m state roles page
  O = C.ordered

  abbrev entries : List ℕ
  entries = entries_of l list

  abbrev rows : List ℕ
  rows = taken l entries order

  abbrev ending : Ending
  ending = finished n l list m (rank rows) state roles page

  choice_in_lem : choice_in n (rank rows) state ≡ choice_of n (uses rows)
  unfolding choice_in
  choice_in_lem = ap (choice_of n) (counts_tell l entries order state C.holds)

  abbrev roles_by : Result ℕ Unpicked → List ℕ
  roles_by choice = over (roles_marks (role_by choice) n l entries order) roles

  roles_in_lem : roles_in n l list (rank rows) state roles ≡ roles_by (choice_of n (uses rows))
  unfolding roles_in
  roles_in_lem =
      roles-after l entries order (places_part (row_count l list) state) (uses_part (rank rows) state) (places_in_lem l list order state C.holds) (counts_tell l entries order state C.holds) n (choice_in n (rank rows) state) choice_in_lem
      (part_below uses_at most_kept (rank rows) state C.low) roles (omega (arith, O.roles_room, length-entries_of l list)) ∙ ap roles_by choice_in_lem

  -- the rows that have role 2 there are the picked ones
  same : SameRows (chosen (roles_by (Ok (least n (uses rows)))) (rows_of l list)) (picked_rows n rows)
  same = chosen-any n l list order O.arrivals O.distinct roles

  -- ---- the verdict

  module _ (uses₀ scratch₀ : List ℕ) where
    abbrev lent : Lent
    lent = record { page = page; uses = uses₀; roles = roles; scratch = scratch₀ }

    from : Result ℕ Unpicked → Ending → Outcome
    from choice e =
        record { answer = e.answer; lent = record { page = e.page; uses = over (uses_marks l entries order) uses₀; roles = roles_by choice; scratch = over zeros scratch₀ } }

    abbrev given : List ℕ
    given = page_of n l (picked_rows n rows)

    -- the page as it was written, cut into symbols again
    given-cut : cut l (take (n * l) (over (flat l given) page)) ≡ given
    given-cut =
        let sized : length (flat l given) ≡ n * l = length-flat l given ∙ ap (λ (k : ℕ). k * l) (length-page_of n l (picked_rows n rows)) in
        rw (take-over (flat l given) page (n * l) sized, sized, mul-div_cancel n (shape_range n l O.shaped).l_low) back
      where
        back : symbols n l (flat l given) ≡ given
        back = unfold symbols in ap (λ (k : ℕ). numbers l k (flat l given)) (sym (length-page_of n l (picked_rows n rows))) ∙ numbers-flat l given (page_of_below n l (picked_rows n rows))

    -- ---- n rows are picked

    module _ (one : tie n rows ≡ false) where
      fit : solvable n l list (roles_by (Ok (least n (uses rows)))) state page ≡ true
      fit =
          picked-solvable n l list (roles_by (Ok (least n (uses rows)))) rows same one O.inside O.shaped O.rows_whole
          (omega (arith, O.roles_room, length_over (roles_marks telling n l entries order) roles (omega (arith, O.roles_room, length-roles telling n l list order)))) state page (omega (arith, slot-room, C.holds.room, sizes)) O.page_room
        where
          slot-room : slot_bytes ≡ 5632
          slot-room = unfold slot_bytes in refl

      agreement_is : agreement_of l list (order_part m (over (replicate slot_bytes 0) state)) (take (n * l) (over (flat l given) page)) ≡ agreement l given rows
      agreement_is =
          let range = shape_range n l O.shaped in
          agreement-taken l list (take (n * l) (over (flat l given) page)) range.l_low range.l_high (most-512 l list O.rows_whole) O.bytes
          (order_part m (over (replicate slot_bytes 0) state)) order order-left O.arrivals ∙ ap (λ (p : List ℕ). agreement l p rows) given-cut
        where
          order-left : pairs_in (order_part m (over (replicate slot_bytes 0) state)) ≡ order
          order-left = ap pairs_in (order-front (replicate slot_bytes 0) state slots_short C.holds.room m) ∙ (order-told m state C.holds.room O.few).1 ∙ O.stands

      settled-reads : from (Ok (least n (uses rows))) (settled (rank rows) n l list m (roles_by (Ok (least n (uses rows)))) state page)
          ≡ told (cond (singular n l rows) dependent (answered given)) n l entries order lent
      unfolding settled
      settled-reads =
          rw (solve_answer_lem n l list (roles_by (Ok (least n (uses rows)))) rows same one O.inside state page fit) (go (singular n l rows) refl)
        where
          go : (s : Bool) → singular n l rows ≡ s
              → from (Ok (least n (uses rows))) (settled_by (cond s (Err Singular) (Ok tt)) (rank rows) n l list m (solve_slots (cond s (Err Singular) (Ok tt)) state)
              (solve_page (cond s (Err Singular) (Ok tt)) n l list (roles_by (Ok (least n (uses rows)))) page))
              ≡ told (cond s dependent (answered given)) n l entries order lent
          go true e = unfold from settled_by solve_page told ended over in refl
          go false e =
              unfold settled_by solve_slots in
              rw (solve_page_lem n l list (roles_by (Ok (least n (uses rows)))) rows same one O.inside e page, agreement_is) (unfold from told ended in refl)

    -- ---- by what was chosen

    reads_by : from (choice_of n (uses rows)) (concluded (choice_of n (uses rows)) (rank rows) n l list m (roles_by (choice_of n (uses rows))) state page) ≡ read n l entries order lent
    unfolding read verdict
    reads_by = rw (choice_is n rows) (go (few n rows) (tie n rows) refl)
      where
        go : (f t : Bool) → tie n rows ≡ t
            → from (cond f (Err Few) (cond t (Err Tie) (Ok (least n (uses rows)))))
            (concluded (cond f (Err Few) (cond t (Err Tie) (Ok (least n (uses rows))))) (rank rows) n l list m (roles_by (cond f (Err Few) (cond t (Err Tie) (Ok (least n (uses rows)))))) state page)
            ≡ told (cond f too_few (cond t tied (cond (singular n l rows) dependent (answered given)))) n l entries order lent
        go true t e = unfold from concluded told ended over in refl
        go false true e = unfold from concluded told ended over in refl
        go false false e = unfold concluded in settled-reads e

    -- the answer, the roles and the page are the reading's
    pub concludes : record { answer = ending.answer; lent = record { page = ending.page; uses = over (uses_marks l entries order) uses₀; roles = roles_in n l list (rank rows) state roles; scratch = over zeros scratch₀ } }
        ≡ read n l entries order lent
    unfolding finished
    concludes = rw (roles_in_lem, choice_in_lem) (unfold from in reads_by)
