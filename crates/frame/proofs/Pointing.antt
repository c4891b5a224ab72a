-- A reading points at the bad byte: what its answer tells of the frame is so.
-- Assumes nothing.
use mathlib.Core.Path.{◌≡◌, refl, ap, ◌∙◌}
use Prim.Native.Nat.{ℕ, ◌+◌, ◌≤◌}
use native.Mathlib.Numerals.{unary_clauses}
use native.Mathlib.Omega.{arith}
use mathlib.Core.Bool.{Bool, true, cond, not, or-true}
use mathlib.Core.List.{List}
use lib.Dec.{ltb}
use lib.ListN.{length, get_or, take, drop, length-drop}
use lib.Seq.{drop-drop, get_or-drop}
use borrow.Author.Tests.{le-leb, lt-ltb, eq-eqb, ne_eqb}
use Rattle.space.proofs.Both.{both_true}
use Rattle.octets.specs.Octets.{number}
use Rattle.rows.specs.Rows.{shape}
use Rattle.std.proofs.Common.{Result, Ok, Err}
use Rattle.field.specs.declared.Fault.{Fault}
use Rattle.field.specs.declared.Fault.TheVariants as fault
use Rattle.frame.specs.declared.Frame.{Frame}
use Rattle.frame.specs.declared.Frame.TheVariants as frames
use Rattle.frame.specs.Layout.{page_at, shape_at, seed_at, payload_at, frame_length}
use Rattle.field.specs.Expected.{field_of, refused_at, placed, expected, length_at}
use Rattle.frame.specs.Reading.{refusing, behind, first, n_of, l_of, second, third, ended, fourth, good, from_shape, reading}
use Rattle.frame.specs.Pointed.{some_field, bad_tag, bad_length, pointed}
use Rattle.frame.proofs.Tests.{either}
use Rattle.frame.proofs.Whole.{Whole, Told, told}

module _ (frame : List ℕ) where
  abbrev Right : Frame → Type 0
  Right f = pointed frame f ≡ true

  -- One of the four fields, by its start, tag and length: it is among them, and it ends where the frame does or before.
  record One (at tag size : ℕ) : Type 0 where
    among : (p : ℕ → ℕ → ℕ → Bool) → p at tag size ≡ true → some_field frame p ≡ true
    within : at + (3 + size) ≤ frame_length (l_of frame)

  module _ (at tag size : ℕ) (one : One at tag size) (next : Frame) (right : Whole (drop at frame) tag size → Right next) where
    field_right : (f : Result Unit Fault) → Told (drop at frame) tag size f → Right (behind (placed frame at f) next)
    unfolding behind refusing placed refused_at pointed bad_tag bad_length
    field_right (Ok _) t = right t
    field_right (Err fault.Short) t = both_true _ _ (eq-eqb (length frame) _ refl) (lt-ltb (length frame) _ (omega (arith, one.within, length-drop at frame)))
    field_right (Err fault.WrongTag) t =
        let is-bad = ne_eqb (get_or frame at 0) tag (λ e. t.1 (get_or-drop at frame 0 0 ∙ simp unary_clauses e)) in
        both_true _ _ (lt-ltb at _ (omega (arith, t.0, length-drop at frame)))
        (one.among _ (both_true _ _ (eq-eqb at at refl) (ap not is-bad)))
    field_right (Err fault.WrongLength) t =
        let is-bad = ne_eqb _ size (λ e. t.1 (ap (λ v. number (take 2 v)) (drop-drop 1 at frame) ∙ e)) in
        both_true _ _ (lt-ltb (length_at at + 1) _ (omega (arith, t.0, length-drop at frame)))
        (one.among _ (both_true _ _ (eq-eqb (length_at at) _ refl) (ap not is-bad)))

    past : Right (behind (expected frame at tag size) next)
    unfolding expected
    past = field_right (field_of (drop at frame) tag size) (told (drop at frame) tag size)

  one : One page_at 1 4
  unfolding some_field
  one = record { among = λ p e. rw e; within = omega arith }

  two : One shape_at 2 2
  unfolding some_field
  two = record { among = λ p e. rw (e, or-true (p page_at 1 4)); within = omega arith }

  three : One seed_at 3 4
  unfolding some_field
  three = record { among = λ p e. rw (e, or-true (p shape_at 2 2), or-true (p page_at 1 4)); within = omega arith }

  four : One payload_at 4 (l_of frame)
  unfolding some_field
  four =
      record {
        among = λ p e. rw (e, or-true (p seed_at 3 4), or-true (p shape_at 2 2), or-true (p page_at 1 4));
        within = omega arith;
      }

  shape_right : Whole (drop shape_at frame) 2 2 → (next : Frame) → Right next → Right (cond (not (shape (n_of frame) (l_of frame))) frames.OutOfRange next)
  unfolding pointed
  shape_right two next right =
      let there = le-leb seed_at (length frame) (omega (arith, two.ends, length-drop shape_at frame)) in
      either Right (not (shape (n_of frame) (l_of frame))) frames.OutOfRange next (both_true _ _ there) (λ _. right)

  end_right : (next : Frame) → Right next → Right (ended frame (l_of frame) next)
  unfolding ended pointed
  end_right next right =
      let end = frame_length (l_of frame) in
      either Right (ltb end (length frame)) (frames.Trailing end) next (both_true _ _ (eq-eqb end end refl)) (λ _. right)

  pub points : pointed frame (reading frame) ≡ true
  unfolding reading first from_shape second third fourth good pointed
  points =
      past page_at 1 4 one _ (λ _.
      past shape_at 2 2 two _ (λ its.
      shape_right its _
      (past seed_at 3 4 three _ (λ _.
      past payload_at 4 (l_of frame) four _ (λ _.
      end_right (good frame (n_of frame) (l_of frame)) refl)))))
