-- `rows::strays` meets its contract: no number of 64 bits reaches 2^n where n is 64 or more.
-- Assumes nothing.
use mathlib.Core.Path.{sym, ap, ◌∙◌}
use Prim.Native.Nat.{ℕ}
use native.Mathlib.Nat.{lt_of_lt_of_le}
use lib.Dec.{leb}
use lib.Pow.{pow_mono}
use borrow.Author.Tests.{lt-leb, le-ltb}
use Rattle.octets.proofs.Digits.{one_shl}
use Rattle.rows.specs.Bytes.{stray}
use Rattle.rows.proofs.strays.Goals as goal

pub returns-then-n-lt64 : goal.returns-then-n-lt64
unfolding stray
returns-then-n-lt64 c = ap (λ (m : ℕ). leb m c.args.constraint) (one_shl c.args.n 64 c.if-n-lt64.true)

pub returns-else-n-lt64 : goal.returns-else-n-lt64
unfolding stray
returns-else-n-lt64 c = le-ltb _ _ c.if-n-lt64.false ∙ sym (lt-leb _ _ (lt_of_lt_of_le c.ranges.constraint.fits (pow_mono c.if-n-lt64.false)))
