-- Making a row: its answer case by case, in 01's order, the head of an entry, and the room at exit.
-- Assumes nothing.
use mathlib.Core.Path.{◌≡◌, refl, sym, ap, ap₂, ◌∙◌}
use mathlib.Core.Bool.{true, false}
use mathlib.Core.List.{List, ◌++◌, append_assoc}
use Prim.Native.Nat.{ℕ, ◌+◌, ◌-◌, ◌*◌, ◌≤◌, ◌<◌}
use native.Mathlib.Omega.{arith}
use lib.Dec.{eqb}
use lib.ListN.{length, take, drop, length-append}
use lib.Seq.{length-take-le}
use borrow.Author.Tests.{eq-eqb, ne_eqb, lt-ltb, le-ltb, lt-leb, le-leb}
use borrow.Rule.Slice.PartMut.{put_mid, mid_len}
use Rattle.octets.specs.Octets.{bytes, over}
use Rattle.octets.proofs.Numbers.{length-bytes}
use Rattle.octets.proofs.Runs.{length_over}
use Rattle.octets.proofs.Lay.{lay-over, over-back}
use Rattle.octets.proofs.Parts.{back, part-long}
use Rattle.std.proofs.Common.{Ok, Err}
use Rattle.std.proofs.lemmas.Grind.{common_steps}
use Rattle.making.specs.declared.Refusal.{Refusal}
use Rattle.making.specs.declared.Refusal.TheVariants.{Shape, Stray, Room, Length}
use Rattle.rows.specs.Rows.{shape, symbols, list_row_bytes, named}
use Rattle.rows.specs.Bytes.{stray, row_of, entry_of, cut}
use Rattle.making.specs.Making.{number_of, make_answer, make_room, entry_head, headed}
use Rattle.rows.proofs.Shape.{shape_range}
use Rattle.rows.proofs.Pages.{cut-symbols}

-- ---- the answer

-- What holds where a row is made.
pub record Makes (n l c page room : ℕ) : Type 0 where
  pub shaped : shape n l ≡ true
  pub sized : page ≡ n * l
  pub plain : stray n c ≡ false
  pub roomy : list_row_bytes l ≤ room

-- Each answer, from what holds of the lengths and the constraint.
module _ (n l c page room : ℕ) where
  pub answer-shape : shape n l ≡ false → make_answer n l c page room ≡ Err Shape
  unfolding make_answer
  answer-shape s = rw s

  module _ (s : shape n l ≡ true) where
    pub answer-length : (page ≡ n * l → ⊥) → make_answer n l c page room ≡ Err Length
    unfolding make_answer
    answer-length e = rw (s, ne_eqb page (n * l) e)

    module _ (e : page ≡ n * l) where
      pub answer-stray : stray n c ≡ true → make_answer n l c page room ≡ Err Stray
      unfolding make_answer
      answer-stray t = rw (s, eq-eqb page (n * l) e, t)

      pub answer-room : stray n c ≡ false → room < list_row_bytes l → make_answer n l c page room ≡ Err Room
      unfolding make_answer
      answer-room t h = rw (s, eq-eqb page (n * l) e, t, lt-ltb room (list_row_bytes l) h)

      pub answer-row : stray n c ≡ false → list_row_bytes l ≤ room → make_answer n l c page room ≡ Ok tt
      unfolding make_answer
      answer-row t h = rw (s, eq-eqb page (n * l) e, t, le-ltb room (list_row_bytes l) h)

pub row_makes : (n l c page room : ℕ) → make_answer n l c page room ≡ Ok tt → Makes n l c page room
unfolding make_answer
row_makes n l c page room row =
    record { shaped = grind (arith, common_steps); sized = grind (arith, common_steps); plain = grind (arith, common_steps); roomy = grind (arith, common_steps) }

-- ---- the head of an entry

pub length-entry_head : (seed c : ℕ) → length (entry_head seed c) ≡ 12
unfolding entry_head
length-entry_head seed c = length-append (bytes 4 seed) (bytes 8 c) ∙ ap₂ (λ (a b : ℕ). a + b) (length-bytes 4 seed) (length-bytes 8 c)

module _ (seed c : ℕ) (room : List ℕ) where
  pub headed_none : length room < 12 → headed seed c room ≡ room
  unfolding headed
  headed_none h = rw (lt-leb 12 (length room) h)

  pub headed-over : 12 ≤ length room → headed seed c room ≡ over (entry_head seed c) room
  unfolding headed
  headed-over h = rw (le-leb 12 (length room) h)

  -- Its two parts as they come back are the head.
  pub headed_written : 12 ≤ length room → (first second : List ℕ) → first ≡ bytes (length (take 4 room)) seed
      → second ≡ bytes (length (take 8 (drop 4 (first ++ drop 4 room)))) c → put_mid 4 8 (first ++ drop 4 room) second ≡ headed seed c room
  unfolding entry_head
  headed_written h first second ef es =
      let is : first ≡ bytes 4 seed = ef ∙ ap (λ (k : ℕ). bytes k seed) (length-take-le 4 room (omega arith)) in
      let begun : first ++ drop 4 room ≡ over (bytes 4 seed) room = over-back 4 first room (ap length is ∙ length-bytes 4 seed) ∙ ap (λ (t : List ℕ). over t room) is in
      let long : length (first ++ drop 4 room) ≡ length room = ap length begun ∙ length_over (bytes 4 seed) room (omega (arith, length-bytes 4 seed)) in
      let next : second ≡ bytes 8 c = es ∙ ap (λ (k : ℕ). bytes k c) (part-long 4 8 (first ++ drop 4 room) (omega arith)) in
      back 4 8 second (first ++ drop 4 room) (ap length next ∙ length-bytes 8 c)
      ∙ rw (begun, next) (lay-over 4 (bytes 4 seed) (bytes 8 c) room (length-bytes 4 seed)) ∙ sym (headed-over h)

-- ---- the room at exit

refused-number : (why : Refusal) → eqb (number_of (Err why)) 0 ≡ false
unfolding number_of
refused-number Shape = refl
refused-number Stray = refl
refused-number Room = refl
refused-number Length = refl

module _ (n l seed c : ℕ) (page room : List ℕ) where
  -- "Refused, they write nothing."
  pub room_refused : (why : Refusal) → make_answer n l c (length page) (length room) ≡ Err why → make_room n l seed c page room ≡ room
  unfolding make_room
  room_refused why is = rw (is, refused-number why)

  room-made : make_answer n l c (length page) (length room) ≡ Ok tt → make_room n l seed c page room ≡ over (entry_of n l seed c page) room
  unfolding make_room number_of
  room-made row = rw row

  -- The head over the room, and the sum right behind it, are the entry.
  module _ (row : make_answer n l c (length page) (length room) ≡ Ok tt) (end : ℕ) (ends : end ≡ list_row_bytes l) (begun : List ℕ) (eb : begun ≡ headed seed c room) where
    makes : Makes n l c (length page) (length room)
    makes = row_makes n l c (length page) (length room) row

    head : begun ≡ over (entry_head seed c) room
    head = eb ∙ headed-over seed c room (omega (arith, makes.roomy))

    size : length (take (end - 12) (drop 12 begun)) ≡ l
    size =
        let front : length (entry_head seed c) ≤ length room = omega (arith, makes.roomy, length-entry_head seed c) in
        let within : end ≤ length begun = omega (arith, ap length head ∙ length_over (entry_head seed c) room front, makes.roomy) in
        mid_len 12 end begun within ∙ omega arith

    pub room-written : (tail : List ℕ) → tail ≡ bytes (length (take (end - 12) (drop 12 begun))) (named (cut (length (take (end - 12) (drop 12 begun))) page) c)
        → put_mid 12 (end - 12) begun tail ≡ make_room n l seed c page room
    unfolding entry_head entry_of row_of
    room-written tail et =
        let whole : cut l page ≡ symbols n l page = cut-symbols n l page (shape_range n l makes.shaped).l_low makes.sized in
        let is : tail ≡ bytes l (named (symbols n l page) c) = rw (size, whole) at et in
        let long : length tail ≡ end - 12 = ap length is ∙ length-bytes l (named (symbols n l page) c) ∙ omega arith in
        back 12 (end - 12) tail begun long
        ∙ rw (head, is) (lay-over 12 (entry_head seed c) (bytes l (named (symbols n l page) c)) room (length-entry_head seed c))
        ∙ ap (λ (entry : List ℕ). over entry room) (append_assoc (bytes 4 seed) (bytes 8 c) (bytes l (named (symbols n l page) c)))
        ∙ sym (room-made row)
