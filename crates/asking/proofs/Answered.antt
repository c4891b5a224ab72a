-- What asking leaves, by its steps: the tail ends from the store's working, the uses are written from the state that it leaves, and the scratch is cleared.
-- Assumes nothing.
use mathlib.Core.Path.{◌≡◌, sym, ap, ap₂, ◌∙◌}
use mathlib.Core.List.{List}
use Prim.Native.Nat.{ℕ, ◌≤◌}
use native.Mathlib.Omega.{arith}
use lib.ListN.{length, take, drop, take-append-drop}
use lib.Seq.{length-take-le}
use Rattle.octets.specs.Octets.{over}
use Rattle.reading.specs.declared.Answer.{Answer}
use Rattle.reading.specs.Answer.{answer_numbers}
use Rattle.reading.specs.Outcome.{zeros}
use Rattle.state.specs.Layout.{state_bytes, uses_part, places_part}
use Rattle.views.proofs.Longer.{uses-longer, places-longer}
use Rattle.marks.specs.Mark.{pairs_after}
use Rattle.tail.specs.Tail.{Ending, ends, roles_in, finished}
use Rattle.store.specs.declared.Head.{Head}
use Rattle.store.specs.Store.{working_in}
use Rattle.asking.specs.Asking.{answering, list_of, ended}

-- the parts that are told are those of the state in front
module _ (scratch : List ℕ) (whole : state_bytes ≤ length scratch) where
  front-whole : state_bytes ≤ length (take state_bytes scratch)
  front-whole = omega (arith, length-take-le state_bytes scratch whole)

  pub front-uses : (n : ℕ) → uses_part n scratch ≡ uses_part n (take state_bytes scratch)
  front-uses n = ap (uses_part n) (sym (take-append-drop state_bytes scratch)) ∙ uses-longer (take state_bytes scratch) (drop state_bytes scratch) front-whole n

  pub front-places : (n : ℕ) → places_part n scratch ≡ places_part n (take state_bytes scratch)
  front-places n = ap (places_part n) (sym (take-append-drop state_bytes scratch)) ∙ places-longer (take state_bytes scratch) (drop state_bytes scratch) front-whole n

-- all of it together, where there is room
pub ended_so : (h : Head) (store page₀ uses₀ roles₀ scratch₀ list working : List ℕ) → list ≡ list_of h store → working ≡ working_in store
    → (a : Answer) (left page uses roles scratch : List ℕ) → state_bytes ≤ length left
    → ends a (take state_bytes left) page ≡ finished h.n h.l list h.taken h.rank working roles₀ page₀
    → roles ≡ roles_in h.n h.l list h.rank working roles₀
    → uses ≡ pairs_after (places_part h.rows left) (uses_part (answer_numbers a).rank left) uses₀ → scratch ≡ over zeros scratch₀
    → answering a page uses roles scratch ≡ ended h store page₀ uses₀ roles₀ scratch₀
unfolding ended
ended_so h store page₀ uses₀ roles₀ scratch₀ list working l w a left page uses roles scratch whole end marked written cleared =
    rw (written ∙ told, marked, cleared, ← l, ← w)
    (ap (λ (e : Ending). answering e.answer e.page (pairs_after (places_part h.rows e.state) (uses_part (answer_numbers e.answer).rank e.state) uses₀)
    (roles_in h.n h.l list h.rank working roles₀) (over zeros scratch₀)) end)
  where
    told : pairs_after (places_part h.rows left) (uses_part (answer_numbers a).rank left) uses₀
        ≡ pairs_after (places_part h.rows (take state_bytes left)) (uses_part (answer_numbers a).rank (take state_bytes left)) uses₀
    told = ap₂ (λ (places counts : List ℕ). pairs_after places counts uses₀) (front-places left whole h.rows) (front-uses left whole (answer_numbers a).rank)
