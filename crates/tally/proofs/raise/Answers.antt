-- `raise` meets its contract: the number at the place is read, and written with one more.
-- Assumes nothing.
use mathlib.Core.Path.{ap, ◌∙◌}
use Prim.Native.Nat.{ℕ, ◌+◌, ◌%◌}
use Rattle.doubles.specs.Doubles.{put_pair}
use Rattle.tally.proofs.Leaves.{pair-raised}
use Rattle.tally.proofs.raise.Goals as goal

pub returns : goal.returns
returns c = c.put_pair.ensures ∙ ap (λ (x : ℕ). put_pair c.args.j ((x + 1) % 65536) c.args.uses.now) c.pair.ensures ∙ pair-raised c.args.uses.now c.args.j c.requires
