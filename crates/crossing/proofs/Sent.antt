-- From a page to a row: what writing leaves in the room reads as itself, is laid wherever there is a place, and gives the row that making gives for
-- the drawn constraint, with the same seed in front; the row agrees with the page. Assumes nothing.
use mathlib.Core.Path.{◌≡◌, refl, ap, ◌∙◌}
use Prim.Native.Nat.{ℕ, ◌^◌, ◌<◌}
use mathlib.Core.Bool.{Bool, true, not}
use mathlib.Core.List.{List, ◌++◌}
use lib.Dec.{eqb}
use borrow.Author.Tests.{not-false}
use Rattle.space.specs.Lists.{Below}
use Rattle.octets.specs.Octets.{number, bytes}
use Rattle.octets.proofs.Numbers.{length-bytes}
use Rattle.octets.proofs.Runs.{take-over}
use Rattle.rows.specs.Rows.{shape, symbols, agrees}
use Rattle.rows.specs.Bytes.{row_of, entry_of}
use Rattle.rows.proofs.Written.{row_of-agrees}
use Rattle.rows.proofs.Shape.{shape_range}
use Rattle.draw.specs.Draw.{constraint}
use Rattle.std.proofs.Common.{Result, Ok, Err}
use Rattle.writing.specs.declared.Refusal.{Refusal}
use Rattle.writing.specs.declared.Refusal.TheVariants.{Shape}
use Rattle.frame.specs.declared.Frame.TheVariants as frames
use Rattle.frame.specs.Layout.{frame_length}
use Rattle.frame.specs.Reading.{reading}
use Rattle.frame.specs.Numbers.{frame_numbers, payload_of}
use Rattle.writing.specs.Writing.{number_of, write_answer, sum_bytes, frame_of, room_after}
use Rattle.laying.specs.Laying.{placing, laid, frame_row, frame_entry}
use Rattle.frame.proofs.Tests.{passes}
use Rattle.draw.proofs.Inside.{draws_below}
use Rattle.frame.proofs.Lengths.{length-frame}
use Rattle.frame.proofs.ReadBack.{laid_out_reads, laid_out_payload}
use Rattle.laying.proofs.Laying.{laid-placing, row_is}
use Rattle.crossing.specs.Sent.{sent}

-- ---- what was checked where a frame was written

abbrev is_done : Result Unit Refusal → Bool
is_done a = eqb (number_of a) 0

pub written-shaped : (n l : ℕ) (page room : List ℕ) → write_answer n l page room ≡ Ok tt → shape n l ≡ true
unfolding write_answer number_of
written-shaped n l page room e = not-false (shape n l) (passes is_done (not (shape n l)) (Err Shape) _ refl (ap is_done e)).0

-- ---- a frame made of a page

module _ (p n l seed : ℕ) (page : List ℕ) (small : p < 2 ^ 32) (seeded : seed < 2 ^ 32) (s : shape n l ≡ true) where
  pub frame-reads : reading (frame_of p n l seed page) ≡ frames.Good p n l seed
  unfolding frame_of sum_bytes
  frame-reads = laid_out_reads p n l seed _ small seeded s (length-bytes l _)

  pub frame-payload : payload_of (frame_of p n l seed page) ≡ sum_bytes n l page (constraint n seed)
  unfolding frame_of sum_bytes
  frame-payload = laid_out_payload p n l seed _ small seeded s (length-bytes l _)

  pub frame_row_lem : frame_row (frame_of p n l seed page) ≡ row_of n l (constraint n seed) page
  unfolding row_of sum_bytes
  frame_row_lem = row_is (frame_of p n l seed page) p n l seed frame-reads ∙ ap (λ t. bytes 8 (constraint n seed) ++ t) frame-payload

  pub frame-entry : frame_entry (frame_of p n l seed page) ≡ entry_of n l seed (constraint n seed) page
  unfolding frame_entry frame_numbers entry_of
  frame-entry = rw frame-reads (rw frame_row_lem)

-- ---- what writing leaves in the room

module _ (p n l seed : ℕ) (page room : List ℕ) (small : p < 2 ^ 32) (seeded : seed < 2 ^ 32) (done : write_answer n l page room ≡ Ok tt) where
  s : shape n l ≡ true
  s = written-shaped n l page room done

  sent_is : sent p n l seed page room ≡ frame_of p n l seed page
  unfolding sent room_after frame_of sum_bytes
  sent_is = rw done (take-over (frame_of p n l seed page) room (frame_length l) (length-frame p n l seed _ (length-bytes l _)))

  -- "a written frame reads back as itself"
  pub sent-reads : reading (sent p n l seed page room) ≡ frames.Good p n l seed
  sent-reads = rw sent_is (frame-reads p n l seed page small seeded s)

  pub sent-payload : payload_of (sent p n l seed page room) ≡ sum_bytes n l page (constraint n seed)
  sent-payload = rw sent_is (frame-payload p n l seed page small seeded s)

  pub sent-laid : (arrival : ℕ) (list : List ℕ) → laid (sent p n l seed page room) p n l arrival list ≡ placing l arrival list
  sent-laid arrival list = laid-placing (sent p n l seed page room) p n l arrival list s p n l seed sent-reads refl refl refl

  -- the row that making writes for the drawn constraint
  pub sent-row : frame_row (sent p n l seed page room) ≡ row_of n l (constraint n seed) page
  sent-row = rw sent_is (frame_row_lem p n l seed page small seeded s)

  -- and with the seed in front the entry that it writes
  pub sent-entry : frame_entry (sent p n l seed page room) ≡ entry_of n l seed (constraint n seed) page
  sent-entry = rw sent_is (frame-entry p n l seed page small seeded s)

  pub sent-agrees : Below 256 page → agrees l (symbols n l page) (number (frame_row (sent p n l seed page room))) ≡ true
  sent-agrees b = rw sent-row (row_of-agrees n l page b (constraint n seed) (draws_below n seed (shape_range n l s).n_low (shape_range n l s).n_high))
