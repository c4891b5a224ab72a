-- `vectors::load` meets its contract: ten words, each at its place.
-- Assumes nothing.
use Rattle.vectors.specs.Vectors.{vector_of}
use Rattle.vectors.proofs.load.Goals as goal

pub returns : goal.returns
unfolding vector_of
returns c =
    rw (c.little.ensures, c.little-2.ensures, c.little-3.ensures, c.little-4.ensures, c.little-5.ensures)
    (rw (c.little-6.ensures, c.little-7.ensures, c.little-8.ensures, c.little-9.ensures, c.little-10.ensures))
