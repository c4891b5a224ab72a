-- `asking::answer_rows` meets its contract: the tail ends from the working with the rows of the store, and the end in pairs writes the uses.
-- Assumes nothing.
use mathlib.Core.Path.{◌≡◌, sym, ap, ap₂, ◌∙◌}
use mathlib.Core.List.{List}
use Prim.Native.Nat.{ℕ, ◌*◌, ◌≤◌}
use native.Mathlib.Omega.{arith}
use lib.ListN.{length, take}
use lib.Seq.{length-take-le}
use Rattle.reading.specs.Outcome.{scratch_bytes}
use Rattle.ends.proofs.Clearing.{has-state, cleared_since}
use Rattle.marks.specs.Mark.{pairs_after}
use Rattle.asking.specs.Asking.{list_of}
use Rattle.store.proofs.Sizes.{sizes}
use Rattle.store.proofs.Back.{length-list, length-working}
use Rattle.asking.proofs.Sizes.{rows-size}
use Rattle.asking.proofs.Answered.{ended_so}
use Rattle.asking.proofs.answer_rows.Goals as goal
use Rattle.asking.proofs.answer_rows.Goals.{After-stride}

-- the rows fit the list
size : (c : After-stride) → c.stride.result * c.args.head.rows ≤ 22528
size c = rw c.stride.ensures (rows-size c.args.head.l c.args.head.rows c.requires.narrow c.requires.few)

pub slice_bounds-finish_from-end : goal.slice_bounds-finish_from-end
slice_bounds-finish_from-end c =
    let long : length c.list-list.result.now ≡ 32752 = ap length c.list-list.ensures.shows ∙ length-list c.args.store.now c.requires.long ∙ omega (arith, sizes) in
    sym (length-take-le (c.stride.result * c.args.head.rows) c.list-list.result.now (omega (arith, size (goal.at.slice_bounds-finish_from-end c).After-stride)))

pub finish_from-answer-requires-clause-whole : goal.finish_from-answer-requires-clause-whole
finish_from-answer-requires-clause-whole c = ap length c.working.ensures.shows ∙ length-working c.args.store.now c.requires.long

pub returns : goal.returns
unfolding list_of pairs_after
returns c =
    let A = c.args in
    let F = c.finish_from-answer in
    let E = c.end in
    let left : List ℕ = F.new.scratch in
    let room : scratch_bytes ≤ length left = omega (arith, c.requires.room, F.auto.scratch) in
    let list = ap₂ (λ (width : ℕ) (l : List ℕ). take (width * A.head.rows) l) c.stride.ensures c.list-list.ensures.shows in
    ended_so A.head A.store.now A.page.now A.uses.now A.roles.now A.scratch.now _ _ list c.working.ensures.shows
    F.result left F.new.page E.new.uses F.new.roles E.new.scratch (has-state (length left) room) F.ensures.end F.ensures.roles
    E.ensures.uses (cleared_since A.scratch.now left E.new.scratch room F.ensures.behind E.ensures.scratch)
