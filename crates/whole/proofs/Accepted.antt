-- What a frame has whose row is laid: it reads as a good one of the page, so its entry has 12+L bytes, and its constraint, which was drawn for n, has no
-- stray bit.
-- Assumes nothing.
use mathlib.Core.Path.{◌≡◌, refl, ap, ◌∙◌}
use Prim.Native.Nat.{ℕ, ◌+◌, ◌*◌, ◌^◌, ◌≤◌, ◌<◌}
use native.Mathlib.Omega.{arith}
use mathlib.Core.Bool.{Bool, true, false, cond, not, ◌&&◌, false≢true}
use mathlib.Core.List.{List, ◌++◌}
use lib.Dec.{eqb, ltb}
use lib.ListN.{length, take, drop, length-append}
use lib.Seq.{take_at, drop_at}
use borrow.Author.Tests.{eqb-true, ltb-false}
use Rattle.std.proofs.Common.{Result, Ok, Err}
use Rattle.space.specs.Lists.{Below}
use Rattle.space.proofs.Both.{both}
use Rattle.space.proofs.Lists.{below_append}
use Rattle.octets.specs.Octets.{number, bytes}
use Rattle.octets.proofs.Numbers.{length-bytes, bytes_below, number-bytes}
use Rattle.octets.proofs.Digits.{number-front, number-back}
use Rattle.octets.proofs.Runs.{below_parts}
use Rattle.rows.specs.Rows.{shape, row_bytes, list_row_bytes, vector, constraint}
use Rattle.rows.proofs.Shape.{shape_range}
use Rattle.draw.specs.Draw as draw
use Rattle.draw.proofs.Laws.{drawn_below}
use Rattle.draw.proofs.Inside.{draws_below}
use Rattle.frame.specs.declared.Frame.{Frame}
use Rattle.frame.specs.declared.Frame.TheVariants as frames
use Rattle.frame.specs.Reading.{reading}
use Rattle.frame.specs.Numbers.{frame_numbers, is_good, offset_of, payload_of}
use Rattle.frame.proofs.Good.{good-payload, good-shaped}
use Rattle.laying.specs.declared.Refusal.{Refusal}
use Rattle.laying.specs.declared.Refusal.TheVariants as laids
use Rattle.laying.specs.Laying.{same_page, placing, laid, frame_entry}
use Rattle.laying.proofs.Laying.{entry_is}

-- ---- the tests that it came past

good_of : (page n l : ℕ) (f : Frame) → is_good f ≡ true → same_page f page n l ≡ true → f ≡ frames.Good page n l (frame_numbers f).seed
unfolding frame_numbers same_page
good_of page n l (frames.Good p m k seed) g o =
    let first = both (eqb p page) (eqb m n && eqb k l) o in
    let second = both (eqb m n) (eqb k l) first.1 in
    rw (eqb-true p page first.0, eqb-true m n second.0, eqb-true k l second.1)
good_of page n l (frames.Short place) g o = absurd (false≢true g)
good_of page n l (frames.WrongTag place) g o = absurd (false≢true g)
good_of page n l (frames.WrongLength place) g o = absurd (false≢true g)
good_of page n l frames.OutOfRange g o = absurd (false≢true g)
good_of page n l (frames.Trailing place) g o = absurd (false≢true g)

abbrev refuse : Refusal → Result Unit Refusal
refuse = Err

row_past : (s g o full short : Bool) (f : Frame)
    → cond (not s) (refuse laids.Shape) (cond (not g) (refuse (laids.Frame f)) (cond (not o) (refuse laids.OtherPage) (cond full (refuse laids.Full) (cond short (refuse laids.Room) (Ok tt))))) ≡ Ok tt
    → (g ≡ true) × (o ≡ true) × (full ≡ false) × (short ≡ false)
row_past true true true false false f e = (refl, refl, refl, refl)
row_past true true true false true f e = let z : ◌≡◌ {A = ℕ} 0 1 = cc in absurd (omega arith)
row_past true true true true short f e = let z : ◌≡◌ {A = ℕ} 0 1 = cc in absurd (omega arith)
row_past true true false full short f e = let z : ◌≡◌ {A = ℕ} 0 1 = cc in absurd (omega arith)
row_past true false o full short f e = let z : ◌≡◌ {A = ℕ} 0 1 = cc in absurd (omega arith)
row_past false g o full short f e = let z : ◌≡◌ {A = ℕ} 0 1 = cc in absurd (omega arith)

module _ (frame : List ℕ) (page n l arrival : ℕ) (list : List ℕ) (row : laid frame page n l arrival list ≡ Ok tt) where
  past : (is_good (reading frame) ≡ true) × (same_page (reading frame) page n l ≡ true) × (ltb 511 arrival ≡ false) × (ltb (length list) (list_row_bytes l * arrival + list_row_bytes l) ≡ false)
  unfolding laid placing
  past = row_past (shape n l) (is_good (reading frame)) (same_page (reading frame) page n l) (ltb 511 arrival) (ltb (length list) (list_row_bytes l * arrival + list_row_bytes l)) (reading frame) row

  pub row-few : arrival < 512
  row-few = omega (arith, ltb-false 511 arrival past.2)

  pub row_room : list_row_bytes l * arrival + list_row_bytes l ≤ length list
  row_room = omega (arith, ltb-false (length list) (list_row_bytes l * arrival + list_row_bytes l) past.3)

  -- ---- its entry

  abbrev seed : ℕ
  seed = (frame_numbers (reading frame)).seed

  reads : reading frame ≡ frames.Good page n l seed
  reads = good_of page n l (reading frame) past.0 past.1

  abbrev tail : List ℕ
  tail = bytes 8 (draw.constraint n seed) ++ payload_of frame

  is : frame_entry frame ≡ bytes 4 seed ++ tail
  is = entry_is frame page n l seed reads

  tail-long : length tail ≡ row_bytes l
  tail-long = length-append (bytes 8 (draw.constraint n seed)) (payload_of frame) ∙ omega (arith, length-bytes 8 (draw.constraint n seed), good-payload frame page n l seed reads)

  pub entry-long : length (frame_entry frame) ≡ list_row_bytes l
  entry-long = ap length is ∙ length-append (bytes 4 seed) tail ∙ omega (arith, length-bytes 4 seed, tail-long)

  module _ (b : Below 256 frame) where
    payload_low : Below 256 (payload_of frame)
    unfolding payload_of
    payload_low =
        let from : ℕ = offset_of (reading frame) in
        (below_parts 256 (frame_numbers (reading frame)).l (drop from frame) (below_parts 256 from frame b).1).0

    tail_low : Below 256 tail
    tail_low = below_append 256 (bytes 8 (draw.constraint n seed)) (payload_of frame) (bytes_below 8 (draw.constraint n seed)) payload_low

    pub entry_low : Below 256 (frame_entry frame)
    entry_low = rw is (below_append 256 (bytes 4 seed) tail (bytes_below 4 seed) tail_low)

    -- "stray bits": none
    pub entry-inside : constraint l (vector l (number (frame_entry frame))) < 2 ^ n
    entry-inside = rw drawn (drawn_below n seed (shape_range n l shaped).n_low)
      where
        shaped : shape n l ≡ true
        shaped = good-shaped frame page n l seed reads

        behind : vector l (number (frame_entry frame)) ≡ number tail
        behind =
            let back : vector l (number (frame_entry frame)) ≡ number (drop 4 (frame_entry frame)) = unfold vector in number-back 4 (row_bytes l) (frame_entry frame) entry_low entry-long in
            back ∙ ap (λ (t : List ℕ). number (drop 4 t)) is ∙ ap number (drop_at (bytes 4 seed) tail 4 (length-bytes 4 seed))

        drawn : constraint l (vector l (number (frame_entry frame))) ≡ draw.constraint n seed
        drawn =
            let front : constraint l (number tail) ≡ number (take 8 tail) = unfold constraint in number-front 8 l tail tail_low tail-long in
            ap (constraint l) behind ∙ front
            ∙ ap number (take_at (bytes 8 (draw.constraint n seed)) (payload_of frame) 8 (length-bytes 8 (draw.constraint n seed)))
            ∙ number-bytes 8 (draw.constraint n seed) (draws_below n seed (shape_range n l shaped).n_low (shape_range n l shaped).n_high)
