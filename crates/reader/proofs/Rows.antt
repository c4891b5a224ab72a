-- The steps over rows that pass: the order is written, elimination leaves a state that holds the rows, and the tail ends as the reading does.
-- Assumes nothing.
use mathlib.Core.Path.{◌≡◌, ap, ap₂, ◌∙◌}
use Prim.Native.Nat.{ℕ, ◌≤◌}
use native.Mathlib.Omega.{arith}
use mathlib.Core.List.{List}
use lib.ListN.{length}
use Rattle.space.specs.Lists.{Below}
use Rattle.octets.specs.Octets.{over}
use Rattle.doubles.specs.Doubles.{pairs_in}
use Rattle.rows.specs.Rows.{row_count, entries_of}
use Rattle.reading.specs.declared.Answer.{Answer}
use Rattle.reading.specs.Answer.{answer_numbers}
use Rattle.reading.specs.Reading.{rank}
use Rattle.reading.specs.Orders.{taken, in_list_order}
use Rattle.reading.specs.Marks.{uses_marks}
use Rattle.reading.specs.Outcome.{zeros}
use Rattle.reading.proofs.Checks.{Passed, passed, Fits, roomy-fits, inside, rows-most}
use Rattle.state.specs.Layout.{uses_part, places_part}
use Rattle.order.specs.Listed.{taken_of, listed_state}
use Rattle.std.specs.Prelude.{Option, Some, None}
use Rattle.echelon.specs.Eliminating.{elimination}
use Rattle.holding.specs.Holds.{Held}
use Rattle.holding.proofs.Listed.{listed-distinct, listed_below, listed-taken, listed-length, listed-order}
use Rattle.tail.specs.Tail.{Ending, ends, roles_in, finished}
use Rattle.concluding.specs.Concluding.{Ordered, Concludes}
use Rattle.concluding.proofs.Left.{finished-rank, counts_still, places_still}
use Rattle.concluding.proofs.Concludes.{concludes}
use Rattle.concluding.proofs.Any.{order-held, order_concludes}
use Rattle.reader.specs.Reader.{buffers, outcome_of, Passing, Reads}

-- ---- where a state holds the rows, the tail ends as the reading does

module _ (n l : ℕ) (list : List ℕ) (m : ℕ) (left roles page : List ℕ) (C : Concludes n l list (in_list_order (entries_of l list)) m left roles page) where
  abbrev entries_in : List ℕ
  entries_in = entries_of l list

  abbrev rank_in : ℕ
  rank_in = rank (taken l entries_in (in_list_order entries_in))

  -- such an ending tells the reading, whatever led to that state
  pub concluded-reads : (a : Answer) (state page₁ roles₁ : List ℕ) → ends a state page₁ ≡ finished n l list m rank_in left roles page → roles₁ ≡ roles_in n l list rank_in left roles
      → Reads n l list page roles a page₁ roles₁ state
  concluded-reads a state page₁ roles₁ ended marked = record {
    reads = λ uses₀ scratch₀.
        ap₂ (λ (e : Ending) (rs : List ℕ). outcome_of e.answer (buffers e.page (over (uses_marks l entries_in (in_list_order entries_in)) uses₀) rs (over zeros scratch₀))) ended marked
        ∙ concludes n l list (in_list_order entries_in) m left roles page C uses₀ scratch₀;
    places = ap (λ (e : Ending). pairs_in (places_part (row_count l list) e.state)) ended ∙ places_still l list (in_list_order entries_in) left C.holds n m roles page;
    counts = rw ranked (ap (λ (e : Ending). pairs_in (uses_part rank_in e.state)) ended ∙ counts_still l list (in_list_order entries_in) left C.holds n m roles page);
  }
    where
      ranked : (answer_numbers a).rank ≡ rank_in
      ranked = ap (λ (e : Ending). (answer_numbers e.answer).rank) ended ∙ finished-rank rank_in n l list m left roles page

-- ---- the reader's steps

module _ (n l : ℕ) (list page roles state₀ : List ℕ) (P : Passing n l list page roles state₀) (bytes : Below 256 list) where
  p : Passed n l list (buffers page P.uses roles P.scratch)
  p = passed n l list (buffers page P.uses roles P.scratch) P.passes

  fits : Fits n l (row_count l list) (buffers page P.uses roles P.scratch)
  fits = roomy-fits n l (row_count l list) (buffers page P.uses roles P.scratch) p.roomed

  many : row_count l list ≤ 512
  many = rows-most n l list (buffers page P.uses roles P.scratch) p

  abbrev m : ℕ
  m = taken_of l list (length state₀)

  abbrev ordered : List ℕ
  ordered = listed_state l list state₀

  abbrev entries : List ℕ
  entries = entries_of l list

  abbrev rows : List ℕ
  rows = taken l entries (in_list_order entries)

  -- the list order stands in the state
  O : Ordered n l list (in_list_order entries) m ordered roles page
  O = record {
    shaped = p.shaped;
    rows_whole = p.rows_whole;
    inside = inside n l list (buffers page P.uses roles P.scratch) p;
    bytes = bytes;
    few = omega (arith, listed-taken l list state₀ many P.whole, many);
    whole = omega (arith, listed-length l list state₀ many P.whole, P.whole);
    stands = listed-order l list state₀ many P.whole;
    arrivals = listed_below l list;
    distinct = listed-distinct l list;
    roles_room = fits.roles;
    page_room = fits.page;
  }

  held : Held l list m ordered (in_list_order entries)
  held = order-held n l list (in_list_order entries) m ordered roles page O

  -- elimination fits
  pub misfit_never : {X : Type 0} (k : ℕ) → k ≡ m → (state : List ℕ) → state ≡ ordered → None ≡ (elimination l list k state).answer → X
  misfit_never k e state f is = let z : ◌≡◌ {A = ℕ} 0 1 = impossible (is ∙ rw (e, f) held.answer) in absurd (omega arith)
    where
      impossible : ◌≡◌ {A = Option ℕ} None (Some (rank rows)) → ◌≡◌ {A = ℕ} 0 1
      impossible h = cc

  -- what elimination leaves holds the rows
  left_concludes : (left : List ℕ) → left ≡ (elimination l list m ordered).state → Below 256 left → Concludes n l list (in_list_order entries) m left roles page
  left_concludes left is low = rw is (order_concludes n l list (in_list_order entries) m ordered roles page O (rw (← is) low))

  -- the three steps together
  pub rows-read : (k : ℕ) → k ≡ m → (state : List ℕ) → state ≡ ordered → (r : ℕ) → Some r ≡ (elimination l list k state).answer
      → (left : List ℕ) → left ≡ (elimination l list k state).state → Below 256 left
      → (a : Answer) (state₁ page₁ roles₁ : List ℕ) → ends a state₁ page₁ ≡ finished n l list k r left roles page → roles₁ ≡ roles_in n l list r left roles
      → Reads n l list page roles a page₁ roles₁ state₁
  rows-read k e state f r is left so low a state₁ page₁ roles₁ ended marked =
      concluded-reads n l list m left roles page (left_concludes left (so ∙ rw (e, f)) low) a state₁ page₁ roles₁ (ended ∙ rw (e, kept)) (marked ∙ rw kept)
    where
      kept : r ≡ rank rows
      kept = number (is ∙ rw (e, f) held.answer)
        where
          number : Some r ≡ Some (rank rows) → r ≡ rank rows
          number h = cc
