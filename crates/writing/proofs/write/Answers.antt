-- `writing::write` meets its contract: the frame is filled into the room's first part.
-- Assumes nothing.
use Rattle.std.proofs.Common.{◌≡◌, sym, ◌∙◌, arith}
use Rattle.octets.proofs.Numbers.{length-bytes}
use Rattle.rows.proofs.Shape.{shape_range}
use Rattle.writing.specs.Writing.{sum_bytes, frame_of, room_after}
use Rattle.draw.specs.Draw.{constraint}
use Rattle.draw.proofs.Inside.{is_drawn}
use Rattle.frame.proofs.Lengths.{length-frame}
use Rattle.octets.proofs.Parts.{begun_is}
use Rattle.writing.proofs.write.Goals as goal

pub returns-clause-room : goal.returns-clause-room
unfolding room_after frame_of sum_bytes
returns-clause-room c =
    let a = c.args in
    let range = shape_range a.n a.l (sym c.shaped.ensures ∙ c.if-not-shaped.false) in
    let drawn : c.unwrap-constraint.result ≡ constraint a.n a.seed = grind (arith, is_drawn a.n a.seed range.n_low range.n_high, c.draw.ensures, c.unwrap-constraint.ensures) in
    let long = length-frame a.page_number a.n a.l a.seed _ (length-bytes a.l _) in
    begun_is _ (frame_of a.page_number a.n a.l a.seed a.page.now) a.room.now _ (rw drawn at c.put_frame.ensures) long
