-- What a good reading tells of a frame.
-- Assumes nothing.
use mathlib.Core.Path.{◌≡◌, refl, sym, ap, ◌∙◌}
use Prim.Native.Nat.{ℕ}
use native.Mathlib.Nat.{le_of_eq}
use native.Mathlib.Omega.{arith}
use mathlib.Core.Bool.{true, false, not, false≢true}
use mathlib.Core.List.{List}
use lib.Dec.{ltb}
use lib.ListN.{length, drop, length-drop}
use lib.Seq.{length-take-le}
use borrow.Author.Tests.{ltb-false, not-false, le-ltb}
use Rattle.octets.specs.Octets.{number}
use Rattle.rows.specs.Rows.{shape}
use Rattle.std.proofs.Common.{Result, Ok, Err}
use Rattle.field.specs.declared.Fault.{Fault}
use Rattle.field.specs.declared.Fault.TheVariants as fault
use Rattle.frame.specs.declared.Frame.{Frame}
use Rattle.frame.specs.declared.Frame.TheVariants as frames
use Rattle.frame.specs.Layout.{page_at, shape_at, seed_at, payload_at, frame_length, value}
use Rattle.field.specs.Expected.{field_of, refused_at, placed, expected}
use Rattle.frame.specs.Reading.{refusing, behind, first, n_of, l_of, second, third, ended, fourth, good, from_shape, reading}
use Rattle.frame.specs.Numbers.{frame_numbers, refused, number_of, is_good, place_of, payload_of}
use Rattle.frame.proofs.Tests.{passes}
use Rattle.frame.proofs.Whole.{Whole, whole, whole_found}

-- the answers that code takes for a refusal
pub refused_is : (f : Frame) → ((page n l seed : ℕ) → f ≡ frames.Good page n l seed → ⊥)
    → (is_good f ≡ false) × (frame_numbers f ≡ refused (number_of f) (place_of f))
unfolding frame_numbers
refused_is (frames.Good page n l seed) o = absurd (o page n l seed refl)
refused_is (frames.Short place) o = (refl, refl)
refused_is (frames.WrongTag place) o = (refl, refl)
refused_is (frames.WrongLength place) o = (refl, refl)
refused_is frames.OutOfRange o = (refl, refl)
refused_is (frames.Trailing place) o = (refl, refl)

past_placed : (frame : List ℕ) (at : ℕ) (f : Result Unit Fault) (next : Frame) → is_good (behind (placed frame at f) next) ≡ true
    → (f ≡ Ok tt) × (is_good next ≡ true)
unfolding behind refusing placed refused_at frame_numbers
past_placed frame at (Ok tt) next e = (refl, e)
past_placed frame at (Err fault.Short) next e = absurd (false≢true e)
past_placed frame at (Err fault.WrongTag) next e = absurd (false≢true e)
past_placed frame at (Err fault.WrongLength) next e = absurd (false≢true e)

-- a good reading came past each field
past : (frame : List ℕ) (at tag size : ℕ) (next : Frame) → is_good (behind (expected frame at tag size) next) ≡ true
    → Whole (drop at frame) tag size × (is_good next ≡ true)
unfolding expected
past frame at tag size next e =
    let went = past_placed frame at (field_of (drop at frame) tag size) next e in
    (whole (drop at frame) tag size went.0, went.1)

-- The four fields of a frame, whole, and nothing behind them.
pub record Fields (frame : List ℕ) : Type 0 where
  pub one : Whole (drop page_at frame) 1 4
  pub two : Whole (drop shape_at frame) 2 2
  pub shaped : shape (n_of frame) (l_of frame) ≡ true
  pub three : Whole (drop seed_at frame) 3 4
  pub four : Whole (drop payload_at frame) 4 (l_of frame)
  pub long : length frame ≡ frame_length (l_of frame)

module _ (frame : List ℕ) where
  -- a frame reads as good exactly when it has them
  pub good_fields : is_good (reading frame) ≡ true → Fields frame
  unfolding reading first from_shape second third fourth ended frame_numbers
  good_fields e =
      let one = past frame page_at 1 4 _ e in
      let two = past frame shape_at 2 2 _ one.1 in
      let range = passes is_good (not (shape (n_of frame) (l_of frame))) frames.OutOfRange _ refl two.1 in
      let three = past frame seed_at 3 4 _ range.1 in
      let four = past frame payload_at 4 (l_of frame) _ three.1 in
      let end = passes is_good (ltb (frame_length (l_of frame)) (length frame)) (frames.Trailing (frame_length (l_of frame))) _ refl four.1 in
      record {
        one = one.0;
        two = two.0;
        shaped = not-false (shape (n_of frame) (l_of frame)) range.0;
        three = three.0;
        four = four.0;
        long = omega (arith, four.0.ends, length-drop payload_at frame, ltb-false (frame_length (l_of frame)) (length frame) end.0);
      }

  pub fields_good : Fields frame → reading frame ≡ good frame (n_of frame) (l_of frame)
  unfolding reading first from_shape second third fourth ended behind expected placed
  fields_good f =
      rw (
        whole_found _ 1 4 f.one,
        whole_found _ 2 2 f.two,
        f.shaped,
        whole_found _ 3 4 f.three,
        whole_found _ 4 (l_of frame) f.four,
        le-ltb _ _ (le_of_eq f.long),
      )

  module _ (page n l seed : ℕ) (e : reading frame ≡ frames.Good page n l seed) where
    pub fields : Fields frame
    unfolding frame_numbers
    fields = good_fields (ap is_good e)

    values : good frame (n_of frame) (l_of frame) ≡ frames.Good page n l seed
    values = sym (fields_good fields) ∙ e

    pub values_are : (number (value frame page_at 4) ≡ page) × (n_of frame ≡ n) × (l_of frame ≡ l) × (number (value frame seed_at 4) ≡ seed)
    unfolding good
    values_are = (cc values, cc values, cc values, cc values)

    pub good_long : length frame ≡ frame_length l
    good_long = rw values_are.2 at fields.long

    pub good-shaped : shape n l ≡ true
    good-shaped = rw (values_are.1, values_are.2) at fields.shaped

    -- the payload has its l bytes
    pub good-payload : length (payload_of frame) ≡ l
    unfolding payload_of frame_numbers
    good-payload = rw e (length-take-le l (drop 22 frame) (omega (arith, good_long, length-drop 22 frame)))
