-- An arrival whose row is no sum of kept rows: it is kept at the next kept place, and the state holds the order with it.
-- Assumes nothing.
use mathlib.Core.Path.{◌≡◌, refl, sym, ap, ap₂, ◌∙◌}
use mathlib.Core.Bool.{false, not}
use mathlib.Core.List.{List, [], ◌∷◌, ◌++◌}
use Prim.Native.Nat.{ℕ, suc, ◌*◌, ◌^◌, ◌<◌}
use native.Mathlib.Numerals.{add-one}
use native.Mathlib.Omega.{arith}
use lib.ListN.{length, set}
use lib.Pow.{pow-lt}
use borrow.Author.Tests.{ltb-true}
use Rattle.space.specs.Space.{◌⊕◌, spans}
use Rattle.space.proofs.Xor.{⊕_lt}
use Rattle.octets.specs.Octets.{number, bytes}
use Rattle.octets.proofs.Numbers.{length-bytes, number-bytes}
use Rattle.reading.specs.Reading.{kept_rows, rank}
use Rattle.reading.specs.Orders.{taken}
use Rattle.reading.proofs.KeptPlaces.{taken-snoc, places-kept}
use Rattle.basis.specs.Algorithm2.{Pass, Working, keeping, step}
use Rattle.tally.specs.Tally.{most_kept}
use Rattle.state.specs.Layout.{vector_bytes, uses_in}
use Rattle.keeping.specs.Keeping.{KeepRoom, kept_state}
use Rattle.state.proofs.Sizes.{sizes}
use Rattle.views.proofs.KeptRow.{kept-length, kept-slots, kept-uses, kept-places}
use Rattle.absorb.specs.Absorbing.{tail_digits}
use Rattle.holding.specs.Holds.{Holds, Offer}
use Rattle.basis.proofs.Model.{rank_most, step_kept}
use Rattle.absorb.proofs.Passing.{tail-size}
use Rattle.holding.proofs.Offers.{key, rows, row, before, p, narrow, wide, right, all_below, next, pass_is, ranked, longer, slots_next, test, left_lt}
use Rattle.reading.proofs.Ranks.{rank-kept}

module _ {l : ℕ} {entries order : List ℕ} {arrival : ℕ} {state : List ℕ} (O : Offer l entries order arrival state) (e : spans (kept_rows (rows O)) (row O) ≡ false) where
  keeping_is : step (tail_digits (key O)) (row O) (before O) ≡ keeping (p O) (before O)
  keeping_is =
      step_kept (tail_digits (key O)) (8 * key O) (wide O) (rows O) (row O) (all_below O) (before O) (right O) e
      ∙ ap (λ (q : Pass). keeping q (before O)) (pass_is O)

  pub stops : (p O).stop < 8 * key O
  stops = ltb-true (p O).stop (8 * key O) (test O ∙ ap not e)

  one_more_lem : rank (rows O ++ (row O ∷ [])) ≡ suc (rank (rows O))
  one_more_lem = rank-kept (rows O) (row O) e

  pub place_left : rank (rows O) < most_kept
  place_left = omega (arith, sizes, one_more_lem, rank_most (8 * key O) (rows O ++ (row O ∷ [])) (all_below O), O.holds.most)

  -- the vector fits its slot
  vector-fits : (p O).vector < 2 ^ (8 * vector_bytes)
  vector-fits = rw (tail-size (key O) (narrow O)).0 at (left_lt O stops)

  abbrev pub vector : List ℕ
  vector = bytes vector_bytes (p O).vector

  abbrev x : ℕ
  x = number vector ⊕ 2 ^ rank (rows O)

  x_is : x ≡ (p O).vector ⊕ 2 ^ rank (rows O)
  x_is = ap (λ (v : ℕ). v ⊕ 2 ^ rank (rows O)) (number-bytes vector_bytes (p O).vector vector-fits)

  x_lt : x < 2 ^ (8 * vector_bytes)
  x_lt = rw x_is (⊕_lt (8 * vector_bytes) (p O).vector (2 ^ rank (rows O)) vector-fits (pow-lt (omega (arith, place_left, sizes))))

  room : KeepRoom (p O).stop arrival (rank (rows O)) (length vector) (length state)
  room = record {
    slot = omega (arith, sizes, stops, narrow O);
    arrival = omega (arith, O.inside, O.holds.many);
    rank = place_left;
    wide = length-bytes vector_bytes (p O).vector;
    whole = O.holds.room;
  }

  snoc : taken l entries (order ++ (arrival ∷ [])) ≡ rows O ++ (row O ∷ [])
  snoc = taken-snoc l entries order arrival

  abbrev after : List ℕ
  after = kept_state (p O).stop vector arrival (rank (rows O)) state

  pub kept-holds : Holds l entries (order ++ (arrival ∷ [])) after
  kept-holds =
      record {
        some = O.holds.some;
        most = O.holds.most;
        room = omega (arith, O.holds.room, kept-length (p O).stop vector arrival (rank (rows O)) state);
        many = O.holds.many;
        few = omega (arith, longer O, O.more);
        slots = rw snoc (kept-slots (p O).stop vector arrival (rank (rows O)) state room (key O) (narrow O) stops x_lt
            ∙ ap₂ (λ (ss : List ℕ) (y : ℕ). set ss (p O).stop y) O.holds.slots (x_is ∙ ap (λ (n : ℕ). (p O).vector ⊕ 2 ^ n) (sym (ranked O)))
            ∙ sym (slots_next O ∙ ap (λ (s : Working). s.slots) keeping_is ∙ unfold keeping in refl));
        uses = rw snoc (ap (λ (n : ℕ). uses_in n after) one_more_lem
            ∙ kept-uses (p O).stop vector arrival (rank (rows O)) state room
            ∙ ap (λ (us : List ℕ). us ++ (0 ∷ [])) (O.holds.uses ∙ sym (right O).uses)
            ∙ sym (ap (λ (s : Working). s.uses) keeping_is ∙ unfold keeping in refl) ∙ (next O).uses);
        places = kept-places (p O).stop vector arrival (rank (rows O)) state room (length entries) O.inside O.holds.many
            ∙ ap₂ (λ (ps : List ℕ) (place : ℕ). set ps arrival place) O.holds.places (add-one (rank (rows O)))
            ∙ sym (places-kept l entries order arrival O.new e);
      }
