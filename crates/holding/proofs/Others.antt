-- A state that holds what an order takes of some entries holds it also of others, no more of them, of which the order takes the same. And a state that is
-- the same before the order holds the same.
-- Assumes nothing.
use mathlib.Core.Path.{◌≡◌, sym, ap, ◌∙◌}
use mathlib.Core.List.{List}
use Prim.Native.Nat.{ℕ, ◌≤◌}
use native.Mathlib.Omega.{arith}
use lib.ListN.{length, take, drop}
use Rattle.octets.proofs.Views.{take-numbers}
use Rattle.rows.specs.Rows.{row_bytes}
use Rattle.reading.specs.Reading.{rank}
use Rattle.reading.specs.Orders.{taken}
use Rattle.reading.proofs.Firsts.{places-first}
use Rattle.state.specs.Layout.{places_at, order_at, places_in}
use Rattle.views.proofs.Alike.{slots_alike, uses_alike, places_alike}
use Rattle.holding.specs.Holds.{Holds}
use Rattle.holding.proofs.Tells.{rank-fits}

module _ (l : ℕ) (entries order state : List ℕ) (H : Holds l entries order state) where
  pub others_hold : (others : List ℕ) → length others ≤ length entries → taken l others order ≡ taken l entries order → Holds l others order state
  others_hold others h same =
      record {
        some = H.some;
        most = H.most;
        room = H.room;
        many = omega (arith, H.many);
        few = H.few;
        slots = rw same H.slots;
        uses = rw same H.uses;
        places = first ∙ ap (take (length others)) H.places ∙ sym (places-first l others entries order h same);
      }
    where
      first : places_in (length others) state ≡ take (length others) (places_in (length entries) state)
      first = unfold places_in in sym (take-numbers 2 (length others) (length entries) (drop places_at state) h)

  pub alike_holds : (now : List ℕ) → length now ≡ length state → take order_at now ≡ take order_at state → Holds l entries order now
  alike_holds now size same =
      record {
        some = H.some;
        most = H.most;
        room = omega (arith, H.room);
        many = H.many;
        few = H.few;
        slots = slots_alike now state same (row_bytes l) (omega (arith, H.most)) ∙ H.slots;
        uses = uses_alike now state same (rank (taken l entries order)) (rank-fits l entries order state H) ∙ H.uses;
        places = places_alike now state same (length entries) H.many ∙ H.places;
      }
