-- `group_80` meets its contract: a word without a digit goes by all its slots; the rest is the walk's, or the pass's in memory.
-- Assumes nothing.
use Rattle.std.proofs.Common.{rules}
use mathlib.Core.Path.{refl, sym, ◌∙◌}
use Prim.Native.Nat.{◌*◌}
use native.Mathlib.Omega.{arith}
use lib.ListN.{length}
use Rattle.space.specs.Lists.{Below}
use Rattle.octets.proofs.Runs.{known_below}
use Rattle.slots.proofs.Fits.{Fits, bytes_below, fits_so}
use Rattle.slots.proofs.Passing.{pass_from, passing-start}
use Rattle.slots.proofs.Grouping.{grouping_start, grouping_end, grouped_past}
use Rattle.slots.proofs.Reducer.group_80.Goals as goal
use Rattle.slots.proofs.Reducer.group_80.Goals.{Start}

fit : (c : Start) → Fits c.args.self.now.key (length c.args.work.now) (length c.args.self.now.slots.now)
fit c = rw c.requires.wide (fits_so _ _ _ c.args.self.now.fits)

pub overflow_mul-g : goal.overflow_mul-g
overflow_mul-g c = omega (arith, fit (goal.at.overflow_mul-g c).Start, c.requires.here)

pub overflow_add-g : goal.overflow_add-g
overflow_add-g c = omega (arith, fit (goal.at.overflow_add-g c).Start, c.requires.here)

pub overflow_mul-self : goal.overflow_mul-self
overflow_mul-self c = omega (arith, fit (goal.at.overflow_mul-self c).Start)

-- no digit is set
pub returns-then-x-eq0 : goal.returns-then-x-eq0
returns-then-x-eq0 c =
    let work = c.args.work.now in
    let slots = c.args.self.now.slots.now in
    let below : Below 256 work = search (rules, known_below) in
    let whole = pass_from c.args.self.now.key (length work) slots work (8 * c.args.g) in
    grouped_past c.args.self.now.key slots work work c.args.g c.min.result (fit (goal.at.returns-then-x-eq0 c).Start).inside
    (rw c.min.ensures (grouping_end c.args.self.now.key (length work) slots (fit (goal.at.returns-then-x-eq0 c).Start) (bytes_below slots c.args.self.now.bytes) whole c.args.g work 0
    (grouping_start c.args.self.now.key (length work) slots whole c.args.g work 0
    (passing-start c.args.self.now.key (length work) slots work (8 * c.args.g) (omega (arith, c.requires.here)) refl below) (sym c.if-x-eq0.true ∙ c.word-x.ensures)) refl))
    c.min.ensures

pub heads_from-requires : goal.heads_from-requires
heads_from-requires c = omega (arith, fit (goal.at.heads_from-requires c).Start, c.requires.here)
