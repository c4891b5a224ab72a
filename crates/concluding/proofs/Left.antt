-- What the tail leaves of a state, and the rank that it answers. Solving clears its slots, and nothing else of the state changes: one that held the
-- rows that were taken still tells the kept places and the uses.
-- Assumes nothing.
use mathlib.Core.Path.{◌≡◌, refl, sym, ap, ◌∙◌}
use Prim.Native.Nat.{ℕ, ◌≤◌}
use native.Mathlib.Omega.{arith}
use mathlib.Core.List.{List}
use mathlib.Core.Logic.{◌⊎◌, inl, inr}
use lib.ListN.{length, replicate, length-replicate}
use Rattle.octets.specs.Octets.{over}
use Rattle.doubles.specs.Doubles.{pairs_in}
use Rattle.rows.specs.Rows.{row_count, entries_of}
use Rattle.rows.proofs.Lists.{length-entries_of}
use Rattle.reading.specs.Answer.{answer_numbers}
use Rattle.reading.specs.Reading.{rank, uses}
use Rattle.reading.specs.Orders.{taken}
use Rattle.reading.specs.Marks.{places_given}
use Rattle.state.specs.Layout.{uses_part, places_part, uses_at}
use Rattle.state.proofs.Sizes.{sizes}
use Rattle.std.specs.Prelude.{Result, Ok, Err}
use Rattle.choose.specs.declared.Unpicked.{Unpicked}
use Rattle.choose.specs.declared.Unpicked.TheVariants.{Few, Tie}
use Rattle.entering.specs.Enter.{slot_bytes}
use Rattle.solve.specs.declared.Unsolved.{Unsolved}
use Rattle.solve.specs.declared.Unsolved.TheVariants.{Singular, Misfit}
use Rattle.solve.specs.Solve.{solve_answer, solve_page, solve_slots}
use Rattle.holding.specs.Holds.{Holds}
use Rattle.holding.proofs.Tells.{counts_tell, counts-left, places_tell, places-left}
use Rattle.tail.specs.Tail.{choice_in, roles_in, settled_by, settled, concluded, finished}

-- ---- of any state

Left : List ℕ → List ℕ → Type 0
Left state left = (left ≡ state) ⊎ (left ≡ over (replicate slot_bytes 0) state)

slots-left : (s : Result (Unit {0}) Unsolved) (state : List ℕ) → Left state (solve_slots s state)
unfolding solve_slots Left
slots-left (Ok _) state = inr refl
slots-left (Err Singular) state = inr refl
slots-left (Err Misfit) state = inl refl

module _ (rank n l : ℕ) (list : List ℕ) (m : ℕ) where
  settled-state : (s : Result (Unit {0}) Unsolved) (state page : List ℕ) → (settled_by s rank n l list m state page).state ≡ state
  unfolding settled_by
  settled-state (Ok _) state page = refl
  settled-state (Err _) state page = refl

  settled-rank : (s : Result (Unit {0}) Unsolved) (state page : List ℕ) → (answer_numbers (settled_by s rank n l list m state page).answer).rank ≡ rank
  unfolding settled_by answer_numbers
  settled-rank (Ok _) state page = refl
  settled-rank (Err _) state page = refl

  concluded-left : (choice : Result ℕ Unpicked) (roles state page : List ℕ) → Left state (concluded choice rank n l list m roles state page).state
  unfolding concluded
  concluded-left (Err Few) roles state page = unfold Left in inl refl
  concluded-left (Err Tie) roles state page = unfold Left in inl refl
  concluded-left (Ok t) roles state page = unfold settled in rw (settled-state (solve_answer n l list roles state page) (solve_slots (solve_answer n l list roles state page) state) (solve_page (solve_answer n l list roles state page) n l list roles page)) (slots-left (solve_answer n l list roles state page) state)

  concluded-rank : (choice : Result ℕ Unpicked) (roles state page : List ℕ) → (answer_numbers (concluded choice rank n l list m roles state page).answer).rank ≡ rank
  unfolding concluded answer_numbers
  concluded-rank (Err Few) roles state page = refl
  concluded-rank (Err Tie) roles state page = refl
  concluded-rank (Ok t) roles state page = unfold settled in settled-rank (solve_answer n l list roles state page) (solve_slots (solve_answer n l list roles state page) state) (solve_page (solve_answer n l list roles state page) n l list roles page)

module _ (rank n l : ℕ) (list : List ℕ) (m : ℕ) (state roles page : List ℕ) where
  pub finished-rank : (answer_numbers (finished n l list m rank state roles page).answer).rank ≡ rank
  unfolding finished
  finished-rank = concluded-rank rank n l list m (choice_in n rank state) (roles_in n l list rank state roles) state page

  finished-left : Left state (finished n l list m rank state roles page).state
  unfolding finished
  finished-left = concluded-left rank n l list m (choice_in n rank state) (roles_in n l list rank state roles) state page

-- ---- of a state that holds rows

pub slots_short : length (replicate {A = ℕ} slot_bytes 0) ≤ uses_at
unfolding slot_bytes
slots_short = omega (arith, length-replicate {A = ℕ} slot_bytes 0, sizes)

module _ (l : ℕ) (list order state : List ℕ) (H : Holds l (entries_of l list) order state) where
  abbrev entries : List ℕ
  entries = entries_of l list

  abbrev rows : List ℕ
  rows = taken l entries order

  pub places_in_lem : pairs_in (places_part (row_count l list) state) ≡ places_given l (entries_of l list) order
  places_in_lem = ap (λ (k : ℕ). pairs_in (places_part k state)) (sym (length-entries_of l list)) ∙ places_tell l entries order state H

  module _ (n m : ℕ) (roles page : List ℕ) where
    abbrev after : List ℕ
    after = (finished n l list m (rank rows) state roles page).state

    left : Left state after
    left = finished-left (rank rows) n l list m state roles page

    pub counts_still : pairs_in (uses_part (rank rows) after) ≡ uses rows
    counts_still = go after (unfold Left in left)
      where
        go : (x : List ℕ) → (x ≡ state) ⊎ (x ≡ over (replicate slot_bytes 0) state) → pairs_in (uses_part (rank rows) x) ≡ uses rows
        go x (inl e) = rw e (counts_tell l entries order state H)
        go x (inr e) = rw e (counts-left l entries order state H (replicate slot_bytes 0) slots_short)

    pub places_still : pairs_in (places_part (row_count l list) after) ≡ places_given l entries order
    places_still = go after (unfold Left in left)
      where
        go : (x : List ℕ) → (x ≡ state) ⊎ (x ≡ over (replicate slot_bytes 0) state) → pairs_in (places_part (row_count l list) x) ≡ places_given l entries order
        go x (inl e) = rw e places_in_lem
        go x (inr e) = rw e (ap (λ (k : ℕ). pairs_in (places_part k (over (replicate slot_bytes 0) state))) (sym (length-entries_of l list)) ∙ places-left l entries order state H (replicate slot_bytes 0) slots_short)
