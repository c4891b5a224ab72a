-- Elimination and the tail read a list in any order of its arrivals that stands in the state and takes none twice: a reading in another order has only
-- to write it. One that takes each row that counts once, as demand 2 asks, is such an order.
-- Assumes nothing.
use mathlib.Core.Path.{◌≡◌, refl, ap, ◌∙◌}
use Prim.Native.Nat.{ℕ, zero, suc, ◌≤◌, ◌<◌}
use native.Mathlib.Omega.{arith}
use mathlib.Core.Bool.{Bool, true, false, cond, false≢true}
use mathlib.Core.List.{List, [], ◌∷◌}
use lib.Dec.{eqb}
use lib.ListN.{length, get_or}
use borrow.Author.Tests.{eq-eqb}
use Rattle.space.specs.Lists.{Below, count}
use Rattle.octets.specs.Octets.{over}
use Rattle.rows.specs.Rows.{row_count, entries_of}
use Rattle.rows.proofs.Lists.{length-entries_of}
use Rattle.rows.proofs.Shape.{shape_range}
use Rattle.reading.specs.Reading.{rank}
use Rattle.reading.specs.Orders.{counts, taken, once, Takes}
use Rattle.reading.specs.Marks.{uses_marks}
use Rattle.reading.specs.Outcome.{zeros, read}
use Rattle.reading.proofs.Checks.{most-512}
use Rattle.reading.proofs.Counted.{length-counts}
use Rattle.std.specs.Prelude.{Some}
use Rattle.echelon.specs.Eliminating.{elimination}
use Rattle.holding.specs.Holds.{Distinct, Held}
use Rattle.holding.proofs.Once.{once-distinct}
use Rattle.holding.proofs.EachHolds.{eliminated_holds}
use Rattle.tail.specs.Tail.{Ending, roles_in, finished}
use Rattle.concluding.specs.Concluding.{Ordered, Concludes}
use Rattle.concluding.proofs.Concludes.{concludes}
use Rattle.concluding.proofs.Bytes.{eliminated_low}

-- ---- an order that stands in a state

module _ (n l : ℕ) (list order : List ℕ) (m : ℕ) (state roles page : List ℕ) (O : Ordered n l list order m state roles page) where
  abbrev entries : List ℕ
  entries = entries_of l list

  abbrev rows : List ℕ
  rows = taken l entries order

  -- the state after elimination
  abbrev left : List ℕ
  left = (elimination l list m state).state

  abbrev ending : Ending
  ending = finished n l list m (rank rows) left roles page

  pub order-held : Held l list m state order
  order-held =
      let range = shape_range n l O.shaped in
      eliminated_holds l list m state order (record { some = range.l_low; most = range.l_high; many = O.few; whole = O.whole }) O.bytes (most-512 l list O.rows_whole) O.stands O.arrivals O.distinct

  pub order_concludes : Below 256 left → Concludes n l list order m left roles page
  order_concludes low = record {
    ordered = record {
      shaped = O.shaped;
      rows_whole = O.rows_whole;
      inside = O.inside;
      bytes = O.bytes;
      few = O.few;
      whole = omega (arith, order-held.long, O.whole);
      stands = order-held.stays;
      arrivals = O.arrivals;
      distinct = O.distinct;
      roles_room = O.roles_room;
      page_room = O.page_room;
    };
    low = low;
    holds = order-held.holds;
  }

  -- elimination gives the rank, and from the state that it leaves the tail answers, marks and writes what the reading does
  pub order-reads : Below 256 state → (uses₀ scratch₀ : List ℕ) → ((elimination l list m state).answer ≡ Some (rank rows))
      × (record { answer = ending.answer; lent = record { page = ending.page; uses = over (uses_marks l entries order) uses₀; roles = roles_in n l list (rank rows) left roles; scratch = over zeros scratch₀ } }
      ≡ read n l entries order (record { page = page; uses = uses₀; roles = roles; scratch = scratch₀ }))
  order-reads low uses₀ scratch₀ = (order-held.answer, concludes n l list order m left roles page (order_concludes (eliminated_low l list m state low)) uses₀ scratch₀)

-- ---- an order that takes each row that counts once

marks_inside : (bs : List Bool) (a : ℕ) → get_or bs a false ≡ true → a < length bs
marks_inside [] a e = absurd (false≢true e)
marks_inside (b ∷ bs) zero e = omega arith
marks_inside (b ∷ bs) (suc a) e = omega (arith, marks_inside bs a e)

counted_below : (m : ℕ) (order : List ℕ) → ((a : ℕ) → 1 ≤ count (eqb a) order → a < m) → Below m order
unfolding count
counted_below m [] h = tt
counted_below m (b ∷ order) h = (h b (rw (eq-eqb b b refl) (omega arith)), counted_below m order (λ a k. h a (more (eqb a b) (count (eqb a) order) k)))
  where
    more : (c : Bool) (k : ℕ) → 1 ≤ k → 1 ≤ cond c (suc k) k
    more true k h = omega arith
    more false k h = h

pub takes_such : (l : ℕ) (list order : List ℕ) → Takes (entries_of l list) order → Below (row_count l list) order × Distinct order
takes_such l list order takes = (counted_below (row_count l list) order inside, once-distinct order (λ a. rw (takes a) (most (get_or (counts entries) a false))))
  where
    entries : List ℕ
    entries = entries_of l list

    most : (b : Bool) → once b ≤ 1
    most true = omega arith
    most false = omega arith

    inside : (a : ℕ) → 1 ≤ count (eqb a) order → a < row_count l list
    inside a h = go (get_or (counts entries) a false) refl
      where
        go : (b : Bool) → get_or (counts entries) a false ≡ b → a < row_count l list
        go true e = omega (arith, marks_inside (counts entries) a e, length-counts entries, length-entries_of l list)
        go false e = let none : count (eqb a) order ≡ 0 = takes a ∙ ap once e in absurd (omega arith)
