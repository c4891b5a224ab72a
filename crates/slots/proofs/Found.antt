-- A turn of `group`, at a slot whose digit is set: it stops there if the slot has no such digit, and else adds the slot and
-- goes on behind it.
-- Assumes nothing.
use mathlib.Core.Path.{◌≡◌, sym, ap, ◌∙◌}
use Prim.Native.Nat.{ℕ, suc, ◌+◌, ◌-◌, ◌*◌, ◌≤◌, ◌<◌}
use native.Mathlib.Numerals.{add-one}
use native.Mathlib.Omega.{arith}
use mathlib.Core.Bool.{true, false}
use mathlib.Core.List.{List}
use lib.ListN.{length, get_or, take, drop}
use Rattle.space.specs.Space.{◌⊕◌}
use Rattle.space.specs.Lists.{Below}
use Rattle.octets.specs.Octets.{number, add_front}
use Rattle.octets.proofs.Numbers.{number-⊕}
use Rattle.octets.proofs.Xors.{xor_bytes_below, add_front-whole, length-add_front}
use Rattle.octets.proofs.Runs.{below_parts, length-numbers, get_or-numbers}
use Rattle.basis.specs.Algorithm2.{digit, Pass, later}
use Rattle.slots.proofs.Fits.{Fits}
use Rattle.basis.proofs.Turns.{turn_stop, turn_add}
use Rattle.octets.proofs.Views.{part_room, length_part}
use Rattle.slots.proofs.Passing.{Passing, ss, from, worth}

pub record Found (key w : ℕ) (slots : List ℕ) (p : Pass) (work : List ℕ) (u : ℕ) : Type 0 where
  pub fit : Fits key w (length slots)
  pub bytes : Below 256 slots
  pub passing : Passing key w slots p work u
  pub inside : u < 8 * key
  pub found : digit (8 * w - suc u) (number work) ≡ true

module _ (key w : ℕ) (slots : List ℕ) (p : Pass) (work : List ℕ) (u : ℕ) (F : Found key w slots p work u) where
  abbrev pub slot : List ℕ
  slot = take w (drop (u * w) slots)

  pub slot-room : u * w + w ≤ length slots
  slot-room = part_room w (8 * key) u slots F.fit.big F.inside

  u-inside : u < length (ss key w slots)
  u-inside = omega (arith, F.inside, length-numbers w (8 * key) slots)

  pub length-slot : length slot ≡ w
  length-slot = length_part w (u * w) slots slot-room

  pub slot_below : Below 256 slot
  slot_below = (below_parts 256 w (drop (u * w) slots) (below_parts 256 (u * w) slots F.bytes).1).0

  slot_is : get_or (ss key w slots) u 0 ≡ number slot
  slot_is = get_or-numbers w (8 * key) slots u F.inside

  -- the digit that the slot stands for, of the slot and of work
  slot-digit : digit (8 * (w - key) + (length (ss key w slots) - suc u)) (get_or (ss key w slots) u 0) ≡ digit (8 * w - suc u) (number slot)
  slot-digit = rw (worth key w slots F.fit.inside u F.inside) (ap (digit (8 * w - suc u)) slot_is)

  work_digit : digit (8 * (w - key) + (length (ss key w slots) - suc u)) (number work) ≡ true
  work_digit = rw (worth key w slots F.fit.inside u F.inside) F.found

  pub found_stop : digit (8 * w - suc u) (number slot) ≡ false → (p.vector ≡ number work) × (p.stop ≡ u)
  found_stop e =
      let s : from key w slots u (number work) ≡ record { vector = number work; stop = 0 } =
      turn_stop (8 * (w - key)) (ss key w slots) u u-inside (number work) work_digit (slot-digit ∙ e) in
      (sym F.passing.vector ∙ ap (λ (q : Pass). q.vector) s, omega (arith, F.passing.stop, ap (λ (q : Pass). q.stop) s))

  pub found_add : digit (8 * w - suc u) (number slot) ≡ true → Passing key w slots p (add_front work slot) (u + 1)
  unfolding later
  found_add e =
      let same : length work ≡ length slot = F.passing.long ∙ sym length-slot in
      let n : number (add_front work slot) ≡ number work ⊕ get_or (ss key w slots) u 0 =
      ap number (add_front-whole work slot same) ∙ number-⊕ work slot same F.passing.below slot_below ∙ ap (λ (x : ℕ). number work ⊕ x) (sym slot_is) in
      let s : from key w slots u (number work) ≡ later (from key w slots (suc u) (number work ⊕ get_or (ss key w slots) u 0)) =
      turn_add (8 * (w - key)) (ss key w slots) u u-inside (number work) work_digit (slot-digit ∙ e) in
      rw (add-one u) (record {
        within = F.inside;
        long = length-add_front work slot ∙ F.passing.long;
        below = rw (add_front-whole work slot same) (xor_bytes_below work slot F.passing.below slot_below);
        vector = rw n (sym (ap (λ (q : Pass). q.vector) s) ∙ F.passing.vector);
        stop = rw n (omega (arith, ap (λ (q : Pass). q.stop) s, F.passing.stop));
      })
