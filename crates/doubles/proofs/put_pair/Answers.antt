-- `doubles::put_pair` meets its contract: both bytes are written, or none.
-- Assumes nothing.
use Rattle.std.proofs.Common.{◌≡◌, ◌+◌, ◌-◌, ◌*◌, ◌/◌, length, ap, ◌∙◌, arith}
use borrow.Author.Tests.{lt-ltb, le-ltb}
use Rattle.octets.specs.Octets.{lay}
use Rattle.octets.proofs.Numbers.{length-bytes}
use Rattle.octets.proofs.Parts.{back}
use Rattle.doubles.specs.Doubles.{put_pair}
use Rattle.doubles.proofs.Doubles.{pair-bytes}
use Rattle.doubles.proofs.put_pair.Goals as goal

pub returns-then-i-into : goal.returns-then-i-into
unfolding put_pair
returns-then-i-into c =
    let A = c.args in
    let two : 2 * A.i + 2 - 2 * A.i ≡ 2 = omega arith in
    let written = c.copy_from_slice.ensures.after ∙ c.to_be_bytes.ensures ∙ pair-bytes A.x in
    rw (lt-ltb A.i (length A.into.now / 2) c.if-i-into.true, two)
    (back (2 * A.i) 2 c.copy_from_slice.new.self A.into.now (ap length written ∙ length-bytes 2 A.x) ∙ ap (λ v. lay (2 * A.i) v A.into.now) written)

pub returns-else-i-into : goal.returns-else-i-into
unfolding put_pair
returns-else-i-into c = rw (le-ltb _ _ c.if-i-into.false)
