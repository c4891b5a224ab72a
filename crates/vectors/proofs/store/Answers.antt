-- `vectors::store` meets its contract: a loop of ten words, each laid right behind those before it.
-- Assumes nothing.
use mathlib.Core.Path.{◌≡◌, ap, ◌∙◌}
use Prim.Native.Nat.{ℕ, ◌+◌, ◌-◌, ◌*◌, ◌≤◌}
use native.Mathlib.Omega.{arith}
use lib.ListN.{length, take, drop, get_or}
use Rattle.octets.proofs.Views.{length_part}
use borrow.Author.Tests.{lt-leb}
use Rattle.vectors.specs.Vectors.{words_in, store_in}
use Rattle.littles.specs.Littles.{little_bytes}
use Rattle.vectors.proofs.Stored.{stored-start, stored_more, stored_end}
use Rattle.vectors.proofs.store.Goals as goal

pub returns-then-into-lt80 : goal.returns-then-into-lt80
unfolding store_in
returns-then-into-lt80 c = rw (lt-leb 80 (length c.args.into.now) (omega arith))

pub loop-i-init : goal.loop-i-init
loop-i-init c = stored-start _ _

pub loop-i-preserved : goal.loop-i-preserved
unfolding words_in
loop-i-preserved c =
    let room : 80 ≤ length c.args.into.now = omega arith in
    let eight : 8 * c.loop-i.i + 8 - 8 * c.loop-i.i ≡ 8 = omega arith in
    let size : length (take (8 * c.loop-i.i + 8 - 8 * c.loop-i.i) (drop (8 * c.loop-i.i) c.loop-i.into)) ≡ 8 =
    rw eight (length_part 8 (8 * c.loop-i.i) c.loop-i.into (omega (arith, c.loop-i.invariant.long))) in
    stored_more _ _ room _ _ c.loop-i.invariant c.loop-i-test.true _
    (c.put_little.ensures ∙ ap (λ (n : ℕ). little_bytes n (get_or (words_in c.args.v) c.loop-i.i 0)) size)

pub returns : goal.returns
returns c =
    let room : 80 ≤ length c.args.into.now = omega arith in
    let all : 10 ≤ c.loop-i.i = omega arith in
    stored_end _ _ room _ _ c.loop-i.invariant all
