-- `reader::read_in` meets its contract: the front of the scratch is lent as the state, and what it tells is told by the whole.
-- Assumes nothing.
use mathlib.Core.Path.{sym}
use mathlib.Core.List.{List}
use Prim.Native.Nat.{ℕ, ◌≤◌}
use native.Mathlib.Omega.{arith}
use lib.ListN.{length, drop}
use lib.Seq.{length-take-le}
use Rattle.reading.specs.Outcome.{scratch_bytes}
use Rattle.state.specs.Layout.{state_bytes}
use Rattle.ends.proofs.Clearing.{cleared_anew}
use Rattle.reader.proofs.Ends.{reads-longer}
use Rattle.reader.proofs.read_in.Goals as goal
use Rattle.reader.proofs.read_in.Goals.{Start}

-- the scratch is long enough
wide : (S : Start) → 32768 ≤ length S.args.scratch.now
unfolding scratch_bytes
wide S = S.requires.room

pub slice_bounds-read_rows-end : goal.slice_bounds-read_rows-end
slice_bounds-read_rows-end c = omega (arith, wide (goal.at.slice_bounds-read_rows-end c).Start)

pub slice_bounds-read_rows-end-2 : goal.slice_bounds-read_rows-end-2
slice_bounds-read_rows-end-2 c =
    sym (length-take-le 31872 c.args.scratch.now (omega (arith, wide (goal.at.slice_bounds-read_rows-end-2 c).Start)))

pub read_rows-requires : goal.read_rows-requires
unfolding state_bytes
read_rows-requires c =
    record {
      uses = c.requires.passing.uses;
      scratch = c.requires.passing.scratch;
      passes = c.requires.passing.passes;
      whole = omega (arith, length-take-le 31872 c.args.scratch.now (omega (arith, wide (goal.at.read_rows-requires c).Start)));
    }

pub returns : goal.returns
unfolding state_bytes
returns c =
    let R = c.read_rows in
    let state : List ℕ = R.new.state in
    let whole : 31872 ≤ length state = omega (arith, R.auto.state, length-take-le 31872 c.args.scratch.now (omega (arith, wide (goal.at.returns c).Start))) in record { reads = reads-longer c.args.n c.args.l c.args.list.now c.args.page.now c.args.roles.now R.result R.new.page R.new.roles state (drop 31872 c.args.scratch.now) whole R.ensures; behind = cleared_anew c.args.scratch.now state c.requires.room R.auto.state }
