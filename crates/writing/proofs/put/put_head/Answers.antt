-- `writing::put::put_head` meets its contract: three parts, a field each; n and L are the two bytes of one number.
-- Assumes nothing.
use native.Mathlib.Omega.{arith}
use mathlib.Core.List.{[], ◌∷◌}
use borrow.Author.Rules.{rules}
use Rattle.octets.specs.Octets.{bytes}
use Rattle.frame.specs.Layout.{field_bytes, head_bytes}
use Rattle.frame.proofs.Lengths.{number_field, length_field, shape-bytes}
use Rattle.octets.proofs.Parts.{three-filled}
use Rattle.writing.proofs.put.put_head.Goals as goal

pub returns : goal.returns
unfolding head_bytes
returns c =
    let head = c.args.head in
    let one = c.put_field in
    let two = c.put_field-2 in
    let three = c.put_field-3 in
    let shape = shape-bytes head.n head.l (search rules) (search rules) in
    three-filled 7 (field_bytes 1 (bytes 4 head.page_number)) c.args.into.now one.new.into one.ensures (number_field 1 4 head.page_number)
    5 (field_bytes 2 (head.n ∷ head.l ∷ [])) two.new.into (rw shape at two.ensures) (length_field 2 (head.n ∷ head.l ∷ []))
    (field_bytes 3 (bytes 4 head.seed)) three.new.into three.ensures (omega (arith, number_field 3 4 head.seed))
