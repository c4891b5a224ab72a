-- One row in bytes that goes into slots: its vector passes as the model has it for the row, and what is left stands in the slot where it stopped.
-- Assumes nothing.
use mathlib.Core.Path.{◌≡◌, refl, sym, ap, ap₂, ◌∙◌}
use Prim.Native.Nat.{ℕ, ◌+◌, ◌-◌, ◌*◌, ◌^◌, ◌≤◌, ◌<◌}
use native.Mathlib.Omega.{arith}
use mathlib.Core.Bool.{Bool, true, false, cond}
use mathlib.Core.List.{List, [], ◌∷◌, map}
use lib.Dec.{ltb}
use lib.ListN.{length, set, length-map}
use lib.Pow.{shl_lt, shl-shr}
use lib.Seq.{set_out, take_all}
use borrow.Author.Tests.{eq-eqb, ltb-true, ltb-false}
use Rattle.space.specs.Lists.{Below}
use Rattle.space.proofs.Lists.{map-set, below_set}
use Rattle.space.proofs.Xor.{⊕_lt}
use Rattle.octets.specs.Octets.{number, bytes, numbers, over, lay}
use Rattle.octets.proofs.Numbers.{number-bytes, length-bytes}
use Rattle.octets.proofs.Runs.{length-numbers}
use Rattle.octets.proofs.Lay.{length-lay}
use Rattle.octets.proofs.Laid.{numbers-before, numbers-lay}
use Rattle.octets.proofs.Loaded.{number_loaded, drop-zeros}
use Rattle.octets.proofs.Views.{part_room}
use Rattle.words.specs.Words.{word_at}
use Rattle.littles.specs.Littles.{little_bytes}
use Rattle.littles.proofs.Littles.{length-little_bytes}
use Rattle.basis.specs.Algorithm2.{Pass, later, pass}
use Rattle.basis.proofs.Passes.{pass-cases}
use Rattle.basis.proofs.Cuts.{cut, cut_pass}
use Rattle.entering.specs.Enter.{slot_bytes, whole_pass, stored, goes_in, slots_with, vector_of, enter_answer, enter_slots}
use Rattle.entering.proofs.Slots.{slot-bytes}
use Rattle.page_of_slots.specs.Symbols.{slots_in}
use Rattle.page_of_slots.proofs.Fronts.{behind, pass-front}
use Rattle.filled.specs.Model.{enters, entered}

-- ---- a vector stored

module _ (t : ℕ) (v slots : List ℕ) (h : t < 64) (one : length v ≡ 80) (all : length slots ≡ slot_bytes) where
  abbrev laid : List ℕ
  laid = lay (t * 80) v slots

  room : t * 80 + 80 ≤ length slots
  room = part_room 80 64 t slots (omega (arith, slot-bytes)) h

  laid-long : length laid ≡ 5632
  laid-long = length-lay (t * 80) v slots (omega (arith, room)) ∙ all ∙ slot-bytes

  pub stored-long : length (stored t v slots) ≡ slot_bytes
  unfolding stored
  stored-long =
      length-lay (5120 + 8 * (63 - t)) (little_bytes 8 (word_at 0 v)) laid (omega (arith, length-little_bytes 8 (word_at 0 v), laid-long))
      ∙ laid-long ∙ sym slot-bytes

  pub stored-numbers : numbers 80 64 (stored t v slots) ≡ set (numbers 80 64 slots) t (number v)
  unfolding stored
  stored-numbers =
      numbers-before 80 64 (5120 + 8 * (63 - t)) (little_bytes 8 (word_at 0 v)) laid (omega arith) (omega (arith, laid-long))
      ∙ numbers-lay 80 64 t v slots one h (omega (arith, slot-bytes))

-- ---- bounds

-- what a pass leaves is no longer than what it came from
pass_lt : (t k : ℕ) (ss : List ℕ) (v : ℕ) → Below (2 ^ k) ss → v < 2 ^ k → (pass t ss v).vector < 2 ^ k
unfolding pass later
pass_lt t k [] v b h = h
pass_lt t k (s ∷ ss) v b h =
    pass-cases t s ss v (λ p. p.vector < 2 ^ k) (λ p q. h) (λ p q. pass_lt t k ss _ b.1 (⊕_lt k v s h b.0)) (λ p. pass_lt t k ss v b.1 h)

-- ---- a row

-- slots of bytes, each number below 2^640
pub record Slots (slots : List ℕ) : Type 0 where
  pub long : length slots ≡ slot_bytes
  pub small : Below (2 ^ 640) (numbers 80 64 slots)

module _ (l : ℕ) (most : l ≤ 32) (slots : List ℕ) (S : Slots slots) (row : ℕ) (low : row < 2 ^ (8 * (8 + l))) where
  abbrev vec : List ℕ
  vec = vector_of (bytes (8 + l) row)

  value : number vec ≡ row * 2 ^ behind (8 + l)
  unfolding vector_of over
  value =
      let wide : length (bytes (8 + l) row) ≡ 8 + l = length-bytes (8 + l) row in
      rw (take_all 80 (bytes (8 + l) row) (omega (arith, wide))) (rw (drop-zeros (length (bytes (8 + l) row)) 80)
      (number_loaded (bytes (8 + l) row) (80 - length (bytes (8 + l) row)) ∙ rw wide (rw (number-bytes (8 + l) row low))))

  front : cut (behind (8 + l)) (number vec) ≡ row
  front = ap (cut (behind (8 + l))) value ∙ shl-shr row (behind (8 + l))

  vec_lt : number vec < 2 ^ 640
  vec_lt =
      let all : 8 * (8 + l) + behind (8 + l) ≡ 640 = omega arith in
      rw value (rw all at (shl_lt (8 * (8 + l)) (behind (8 + l)) low))

  abbrev whole : Pass
  whole = whole_pass slots vec

  left_back : number (bytes 80 whole.vector) ≡ whole.vector
  left_back = number-bytes 80 whole.vector (pass_lt 576 640 (numbers 80 64 slots) (number vec) S.small vec_lt)

  same : pass (8 * l) (slots_in (8 + l) slots) row ≡ cut_pass (behind (8 + l)) whole
  same = let back : 8 + l - 8 ≡ l = omega arith in rw back at (pass-front (8 + l) row slots vec (omega arith) (omega arith) front)

  stops : (pass (8 * l) (slots_in (8 + l) slots) row).stop ≡ whole.stop
  stops = ap (λ (p : Pass). p.stop) same

  width : length (slots_in (8 + l) slots) ≡ 64
  width = length-map (numbers 80 64 slots) (cut (behind (8 + l))) ∙ length-numbers 80 64 slots

  pub enter_enters : enter_answer slots (bytes (8 + l) row) ≡ enters l (slots_in (8 + l) slots) row
  unfolding enter_answer goes_in enters
  enter_enters = rw (eq-eqb (length slots) slot_bytes S.long) (sym (ap₂ ltb stops width))

  -- the slots afterwards, by where it stopped
  after : (P : List ℕ → Type 0) → (whole.stop < 64 → P (stored whole.stop (bytes 80 whole.vector) slots)) → (64 ≤ whole.stop → P slots)
      → P (enter_slots slots (bytes (8 + l) row))
  unfolding enter_slots slots_with goes_in
  after P yes' no' = rw (eq-eqb (length slots) slot_bytes S.long) (go (ltb whole.stop 64) refl)
    where
      go : (b : Bool) → ltb whole.stop 64 ≡ b → P (cond b (stored whole.stop (bytes 80 whole.vector) slots) slots)
      go true e = yes' (ltb-true whole.stop 64 e)
      go false e = no' (ltb-false whole.stop 64 e)

  numbers_after : whole.stop < 64 → numbers 80 64 (stored whole.stop (bytes 80 whole.vector) slots) ≡ set (numbers 80 64 slots) whole.stop whole.vector
  numbers_after h =
      stored-numbers whole.stop (bytes 80 whole.vector) slots h (length-bytes 80 whole.vector) S.long
      ∙ ap (set (numbers 80 64 slots) whole.stop) left_back

  pub enter_slots_lem : Slots (enter_slots slots (bytes (8 + l) row))
  enter_slots_lem =
      after Slots
      (λ h. record {
        long = stored-long whole.stop (bytes 80 whole.vector) slots h (length-bytes 80 whole.vector) S.long;
        small =
            rw (numbers_after h) (below_set (2 ^ 640) (numbers 80 64 slots) whole.stop whole.vector S.small
            (pass_lt 576 640 (numbers 80 64 slots) (number vec) S.small vec_lt));
      })
      (λ h. S)

  pub enter_entered : slots_in (8 + l) (enter_slots slots (bytes (8 + l) row)) ≡ entered l (slots_in (8 + l) slots) row
  unfolding entered
  enter_entered =
      let kept : (pass (8 * l) (slots_in (8 + l) slots) row).vector ≡ cut (behind (8 + l)) whole.vector = ap (λ (p : Pass). p.vector) same in
      after (λ (s : List ℕ). slots_in (8 + l) s ≡ entered l (slots_in (8 + l) slots) row)
      (λ h. ap (map (cut (behind (8 + l)))) (numbers_after h) ∙ map-set (cut (behind (8 + l))) (numbers 80 64 slots) whole.stop whole.vector
      ∙ sym (ap₂ (set (slots_in (8 + l) slots)) stops kept))
      (λ h. sym (set_out (slots_in (8 + l) slots) (pass (8 * l) (slots_in (8 + l) slots) row).stop (pass (8 * l) (slots_in (8 + l) slots) row).vector (omega (arith, stops, width))))
