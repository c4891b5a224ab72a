-- `tally_words` meets its contract: after each word the uses are raised by the digits of the tail up to it.
-- Assumes nothing.
use mathlib.Core.Path.{◌≡◌, ap, ◌∙◌}
use Prim.Native.Nat.{ℕ, ◌+◌, ◌-◌, ◌*◌, ◌/◌, ◌%◌, ◌^◌}
use native.Mathlib.Nat.{mod-lt}
use native.Mathlib.Omega.{arith}
use lib.Pow.{pow_pos}
use lib.ListN.{length}
use Rattle.octets.proofs.Runs.{known_below}
use Rattle.tally.proofs.Fits.{sizes}
use Rattle.tally.proofs.Uses.{Tallying, tally_start, tally_fits, tally_more, tally_end}
use Rattle.tally.proofs.tally_words.Goals as goal
use Rattle.tally.proofs.tally_words.Goals.{After-tally_word}

pub loop-j-init : goal.loop-j-init
loop-j-init c = tally_start _ _ _ c.requires.uses (known_below c.args.uses.now c.type_inv.uses)

pub overflow_sub-j : goal.overflow_sub-j
overflow_sub-j c = omega (arith, sizes, c.requires.few)

pub tally_word-requires : goal.tally_word-requires
tally_word-requires c =
    let l = c.loop-j in
    tally_fits c.args.r c.args.uses.now c.args.tail.now c.requires.uses l.j c.low.result c.loop-j-test.true (rw c.low.ensures (mod-lt _ (pow_pos _))) (length l.uses) (l.auto.uses ∙ c.requires.uses)

-- a word more is tallied
more : (c : After-tally_word) → Tallying c.args.r c.args.uses.now c.args.tail.now c.tally_word.new.uses (c.loop-j.j + 64)
more c =
    let l = c.loop-j in
    let there : 8 * (32 - l.j / 8 + 8) + l.j ≡ 8 * length c.args.tail.now = omega (arith, sizes, c.requires, l.invariant.words, c.loop-j-test.true) in
    let names = c.low.ensures ∙ ap (λ (x : ℕ). x % 2 ^ (c.args.r - l.j)) c.word-names.ensures in
    tally_more c.args.r c.args.uses.now c.args.tail.now c.requires.uses (known_below c.args.tail.now c.type_inv.tail) l.uses c.tally_word.new.uses (32 - l.j / 8) l.j l.invariant there c.loop-j-test.true
    (rw names at c.tally_word.ensures)

pub loop-j-preserved : goal.loop-j-preserved
loop-j-preserved c = more (goal.at.loop-j-preserved c).After-tally_word

pub returns : goal.returns
returns c =
    let l = c.loop-j in
    tally_end c.args.r c.args.uses.now c.args.tail.now c.requires.uses l.uses l.j l.invariant c.loop-j-test.false

pub returns-2 : goal.returns-2
returns-2 c = tally_end c.args.r c.args.uses.now c.args.tail.now c.requires.uses c.tally_word.new.uses (c.loop-j.j + 64) (more (goal.at.returns-2 c).After-tally_word) (omega arith)
