-- `walk_or_group` meets its contract: the walk is the pass over the slots, in registers; astray, the pass is made in memory from the start.
-- Assumes nothing.
use Rattle.std.proofs.Common.{rules}
use mathlib.Core.Path.{◌≡◌, sym, ap, ◌∙◌}
use Rattle.octets.proofs.Runs.{known_below}
use Rattle.words.specs.Words.{word_at}
use Rattle.vectors.specs.Vectors.{bytes_of}
use Rattle.vectors.proofs.Vectors.{bytes_of_load, store_whole}
use Rattle.slots.specs.Reducing.{Walked, Grouped}
use Rattle.slots.proofs.Reducer.walk_or_group.Goals as goal
use Rattle.slots.proofs.Reducer.walk_or_group.Goals.{After-load}

-- the vector that is walked has the bytes of work
loaded : (c : After-load) → bytes_of c.load.result ≡ c.args.work.now
loaded c =
    rw c.load.ensures (bytes_of_load c.args.work.now (c.requires.wide ∙ c.requires.eighty) (search (rules, known_below)))

pub walk_on-requires : goal.walk_on-requires
walk_on-requires c =
    record { wide = c.requires.eighty; here = c.requires.here; word = c.requires.word ∙ ap (word_at c.args.g) (sym (loaded c)) }

pub returns-in-Some : goal.returns-in-Some
unfolding Walked
returns-in-Some c =
    let walked : Grouped c.args.self.now.key c.args.self.now.slots.now (bytes_of c.load.result) (bytes_of c.in-Some.v) c.args.g c.in-Some.u = rw c.in-Some.is at c.walk_on.ensures in
    rw (c.store.ensures, store_whole c.in-Some.v c.args.work.now (c.requires.wide ∙ c.requires.eighty)) (rw (loaded (goal.at.returns-in-Some c).After-load) at walked)
