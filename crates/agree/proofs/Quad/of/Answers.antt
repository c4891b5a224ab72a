-- `Quad::of` meets its contract, word by word.
-- Assumes nothing.
use Rattle.std.proofs.Common.{ℕ, ◌-◌, length}
use Rattle.std.proofs.Math.Nat.{min_comm}
use Rattle.agree.specs.Quads.{quad_of}
use Rattle.agree.proofs.Quad.of.Goals as goal

pub returns : goal.returns
unfolding quad_of
returns c =
    let last : ℕ = length c.args.from.now - 8 in
    rw (c.little.ensures, c.little-2.ensures, c.little-3.ensures, c.little-4.ensures)
    (rw (c.min.ensures, c.min-2.ensures, c.min-3.ensures, min_comm last 8, min_comm last 16, min_comm last 24))
