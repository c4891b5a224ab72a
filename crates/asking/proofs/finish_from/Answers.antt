-- `asking::finish_from` lends the front of the scratch, which is as long as the working; what stands behind it stays.
-- Assumes nothing.
use mathlib.Core.Path.{◌≡◌, sym, ◌∙◌}
use mathlib.Core.List.{List, ◌++◌}
use Prim.Native.Nat.{ℕ, ◌≤◌}
use native.Mathlib.Omega.{arith}
use lib.ListN.{length, take, drop}
use lib.Seq.{length-take-le, take_at}
use Rattle.octets.specs.Octets.{over}
use Rattle.octets.proofs.Lay.{copied}
use Rattle.reading.specs.Outcome.{scratch_bytes}
use Rattle.state.specs.Layout.{state_bytes}
use Rattle.reading.specs.declared.Answer.{Answer}
use Rattle.tail.specs.Tail.{Ending, ends}
use Rattle.ends.proofs.Clearing.{cleared_anew}
use Rattle.asking.proofs.finish_from.Goals as goal
use Rattle.asking.proofs.finish_from.Goals.{Start}

-- the scratch is long enough
wide : (S : Start) → 31872 ≤ length S.args.scratch.now
unfolding scratch_bytes
wide S = omega (arith, S.requires.room)

pub slice_bounds-state-end : goal.slice_bounds-state-end
slice_bounds-state-end c = wide (goal.at.slice_bounds-state-end c).Start

pub slice_bounds-state-end-2 : goal.slice_bounds-state-end-2
slice_bounds-state-end-2 c = sym (length-take-le 31872 c.args.scratch.now (wide (goal.at.slice_bounds-state-end-2 c).Start))

-- the state that is lent to the tail is the working
laid : (S : Start) → over (take (length (take 31872 S.args.scratch.now)) S.args.working.now) (take 31872 S.args.scratch.now) ≡ S.args.working.now
unfolding state_bytes
laid S = copied 31872 S.args.working.now (take 31872 S.args.scratch.now) S.requires.whole (length-take-le 31872 S.args.scratch.now (wide S))

-- the front was lent and came back
front_ends : (k : ℕ) (state more page : List ℕ) (a : Answer) (e : Ending) → length state ≡ k → ends a state page ≡ e → ends a (take k (state ++ more)) page ≡ e
front_ends k state more page a e size is = rw (take_at state more k size) is

pub returns-clause-end : goal.returns-clause-end
unfolding state_bytes
returns-clause-end c =
    let S = (goal.at.returns-clause-end c).Start in
    let scratch = c.args.scratch.now in
    let F = c.finish in
    front_ends 31872 F.new.state (drop 31872 scratch) F.new.page F.result _ (F.auto.state ∙ c.copy.auto.into ∙ length-take-le 31872 scratch (wide S))
    (rw (c.copy.ensures ∙ laid S) at F.ensures.end)

pub returns-clause-roles : goal.returns-clause-roles
returns-clause-roles c = rw (c.copy.ensures ∙ laid (goal.at.returns-clause-roles c).Start) at c.finish.ensures.roles

pub returns-clause-behind : goal.returns-clause-behind
returns-clause-behind c = cleared_anew c.args.scratch.now c.finish.new.state c.requires.room (c.finish.auto.state ∙ c.copy.auto.into)
