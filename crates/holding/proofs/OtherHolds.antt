-- An arrival whose row is a sum of kept rows: its uses are counted, and the state holds the order with it.
-- Assumes nothing.
use mathlib.Core.Path.{◌≡◌, refl, sym, ap, ap₂, ◌∙◌}
use mathlib.Core.Bool.{Bool, true, false, not}
use mathlib.Core.List.{List, [], ◌∷◌, ◌++◌, map}
use Prim.Native.Nat.{ℕ, ◌*◌, ◌≤◌, ◌<◌}
use native.Mathlib.Omega.{arith}
use lib.ListN.{length, get_or, set, length-map, length-append}
use Rattle.space.specs.Space.{spans, set_of}
use Rattle.space.specs.Lists.{Below, select}
use Rattle.space.proofs.Lists.{length-select, marked_le, count_le, tabulate_below}
use Rattle.octets.specs.Octets.{number, bytes}
use Rattle.octets.proofs.Numbers.{length-bytes, number-bytes_mod}
use Rattle.reading.specs.Reading.{kept, kept_rows, other_rows, rank, uses_of, uses}
use Rattle.reading.proofs.Kept.{length-kept}
use Rattle.reading.specs.Orders.{taken}
use Rattle.reading.proofs.KeptPlaces.{taken-snoc, places-other}
use Rattle.reading.specs.Raised.{raised}
use Rattle.basis.specs.Algorithm2.{digits, Pass, Working, counting, step}
use Rattle.basis.proofs.Digits.{digits_mod}
use Rattle.tally.specs.Tally.{most_kept, tail_bytes}
use Rattle.state.specs.Layout.{uses_in}
use Rattle.counting.specs.Counting.{CountRoom, counted_state}
use Rattle.state.proofs.Sizes.{sizes}
use Rattle.views.proofs.CountedRow.{counted-length, counted-slots, counted-uses, counted-places}
use Rattle.absorb.specs.Absorbing.{tail_digits}
use Rattle.holding.specs.Holds.{Holds, Offer}
use Rattle.basis.proofs.Model.{step_other}
use Rattle.holding.proofs.Places.{places_none}
use Rattle.holding.proofs.Offers.{key, rows, row, before, p, narrow, wide, right, all_below, next, pass_is, ranked, fits, longer, slots_next}
use Rattle.reading.proofs.Ranks.{rank-other}

-- no row is used more often than there are rows
pub uses-most : (m : ℕ) (rows : List ℕ) → length rows < m → Below m (uses rows)
unfolding uses uses_of other_rows
uses-most m rows h =
    tabulate_below m (length (kept_rows rows)) _ (λ j. omega (
      arith,
      count_le (λ r. get_or (set_of (kept_rows rows) r) j false) (select (map not (kept rows)) rows),
      length-select (map not (kept rows)) rows (length-map (kept rows) not ∙ length-kept rows),
      marked_le (map not (kept rows)),
      length-map (kept rows) not,
      length-kept rows,
    ))

-- the last bytes of a vector name the same kept places as the vector does
tail-digits : (x r : ℕ) → r ≤ most_kept → digits r (number (bytes tail_bytes x)) ≡ digits r x
unfolding tail_bytes
tail-digits x r h = ap (digits r) (number-bytes_mod 40 x) ∙ digits_mod r 320 x (omega (arith, sizes))

length_taken : (l : ℕ) (entries order : List ℕ) → length (taken l entries order) ≡ length order
unfolding taken
length_taken l entries order = length-map order _

module _ {l : ℕ} {entries order : List ℕ} {arrival : ℕ} {state : List ℕ} (O : Offer l entries order arrival state) (e : spans (kept_rows (rows O)) (row O) ≡ true) where
  abbrev pub tail : List ℕ
  tail = bytes tail_bytes (p O).vector

  abbrev us : List ℕ
  us = raised (digits (rank (rows O)) (number tail)) (uses_in (rank (rows O)) state)

  counting_is : step (tail_digits (key O)) (row O) (before O) ≡ counting (p O) (before O)
  counting_is = step_other (tail_digits (key O)) (8 * key O) (wide O) (rows O) (row O) (all_below O) (before O) (right O) e ∙ ap (λ (q : Pass). counting q (before O)) (pass_is O)

  -- the uses laid are the definition's
  uses_are : us ≡ uses (rows O ++ (row O ∷ []))
  uses_are =
      ap (λ (ds : List Bool). raised ds (uses_in (rank (rows O)) state)) (tail-digits (p O).vector (rank (rows O)) (fits O).rank)
      ∙ ap₂ (λ (n : ℕ) (ns : List ℕ). raised (digits n (p O).vector) ns) (sym (ranked O)) (O.holds.uses ∙ sym (right O).uses)
      ∙ sym (ap (λ (s : Working). s.uses) counting_is ∙ unfold counting in refl) ∙ (next O).uses

  same_rank : rank (rows O ++ (row O ∷ [])) ≡ rank (rows O)
  same_rank = rank-other (rows O) (row O) e

  room : CountRoom (length tail) arrival (rank (rows O)) (length state)
  room = record { wide = length-bytes tail_bytes (p O).vector; arrival = (fits O).arrival; rank = (fits O).rank; whole = O.holds.room }

  snoc : taken l entries (order ++ (arrival ∷ [])) ≡ rows O ++ (row O ∷ [])
  snoc = taken-snoc l entries order arrival

  -- no count reaches what two bytes hold
  uses-small : Below 65536 us
  uses-small =
      rw uses_are (uses-most 65536 (rows O ++ (row O ∷ [])) (omega (
        arith,
        O.more,
        length-append (rows O) (row O ∷ []),
        length_taken l entries order,
      )))

  abbrev after : List ℕ
  after = counted_state tail arrival (rank (rows O)) state

  pub other-holds : Holds l entries (order ++ (arrival ∷ [])) after
  other-holds =
      record {
        some = O.holds.some;
        most = O.holds.most;
        room = omega (arith, O.holds.room, counted-length tail arrival (rank (rows O)) state);
        many = O.holds.many;
        few = omega (arith, longer O, O.more);
        slots = rw snoc (counted-slots tail arrival (rank (rows O)) state room (key O) (narrow O) ∙ O.holds.slots
            ∙ sym (slots_next O ∙ ap (λ (s : Working). s.slots) counting_is ∙ unfold counting in refl));
        uses = rw snoc (ap (λ (n : ℕ). uses_in n after) same_rank ∙ counted-uses tail arrival (rank (rows O)) state room uses-small ∙ uses_are);
        places = counted-places tail arrival (rank (rows O)) state room (length entries) O.inside O.holds.many ∙ ap (λ (ps : List ℕ). set ps arrival 0) O.holds.places
            ∙ places_none l entries order arrival O.new ∙ sym (places-other l entries order arrival e);
      }
