-- `writing::put::put_frame` meets its contract: three parts, the head, the payload's tag and length, and the sum.
-- Assumes nothing.
use Rattle.std.proofs.Common.{◌≡◌, ◌∙◌, length, arith}
use Rattle.octets.proofs.Numbers.{length-bytes}
use Rattle.frame.specs.Layout.{mark, field_bytes, head_bytes, frame_bytes}
use Rattle.writing.specs.Writing.{sum_bytes}
use Rattle.frame.proofs.Lengths.{length-mark, length-head}
use Rattle.octets.proofs.Parts.{third-long, three-filled}
use Rattle.writing.proofs.Rooms.{sum_is}
use Rattle.writing.proofs.put.put_frame.Goals as goal

pub returns : goal.returns
unfolding frame_bytes field_bytes sum_bytes
returns c =
    let into = c.args.into.now in
    let page = c.args.page.now in
    let head = c.args.head in
    let put = c.put_head in
    let marked = c.put_mark in
    let front = head_bytes head.page_number head.n head.l head.seed in
    let front_long = length-head head.page_number head.n head.l head.seed in
    let payload = sum_bytes head.n head.l page c.args.constraint in
    let payload-long : length payload ≡ head.l = length-bytes head.l _ in
    let left = third-long 19 front into put.new.into put.ensures front_long 3 (mark 4 head.l) marked.new.into marked.ensures (length-mark 4 head.l)
    head.l (omega (arith, c.requires.into_long)) in
    let summed = c.sum.ensures ∙ sum_is head.n head.l _ page c.args.constraint c.requires.l_low left c.requires.page_long in
    rw payload-long
    (three-filled 19 front into put.new.into put.ensures front_long 3 (mark 4 head.l) marked.new.into marked.ensures (length-mark 4 head.l)
    payload c.sum.new.into summed (omega (arith, payload-long, c.requires.into_long)))
