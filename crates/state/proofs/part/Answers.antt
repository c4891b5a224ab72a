-- `part` meets its contract, by each of the two tests in turn.
-- Assumes nothing.
use mathlib.Core.Path.{◌≡◌, sym, ap}
use Prim.Native.Nat.{ℕ, ◌+◌, ◌-◌, ◌*◌}
use native.Mathlib.Nat.{zero-add}
use native.Mathlib.Omega.{arith}
use lib.ListN.{take}
use Rattle.state.specs.Layout.{state_bytes, part_at, part}
use Rattle.state.proofs.Sizes.{sizes}
use Rattle.state.proofs.Parts.{too_many, too_short, part_is}
use Rattle.state.proofs.part.Goals as goal
use Rattle.state.proofs.part.Goals.{then-most-n-via-then-most-n, then-most-n-via-else-most-n+then-state-lt-BYTES}

pub returns-then-most-n : goal.returns-then-most-n
unfolding state_bytes
returns-then-most-n c =
    let A = c.args in
    let none : (part_at A.at A.most A.n A.state.now ≡ 0) × (part A.at A.most A.n A.state.now ≡ take 0 A.state.now) = elim c.then-most-n.branch [
      | then-most-n-via-then-most-n w ↦ too_many A.at A.most A.n A.state.now w.if-most-n.true
      | then-most-n-via-else-most-n+then-state-lt-BYTES w ↦ too_short A.at A.most A.n A.state.now w.if-most-n.false w.if-state-lt-BYTES.true
    ] in
    record { shows = sym none.1; points = rw none.0 (ap (λ (k : ℕ). (A.state.ref_ptr.0, k)) (sym (zero-add _))) }

pub overflow_mul-end : goal.overflow_mul-end
overflow_mul-end c = omega (arith, sizes, c.if-most-n.false, c.requires)

pub overflow_add-end : goal.overflow_add-end
overflow_add-end c = omega (arith, sizes, c.if-most-n.false, c.requires)

pub slice_bounds-result-end-2 : goal.slice_bounds-result-end-2
slice_bounds-result-end-2 c = omega (arith, sizes, c.if-most-n.false, c.requires, c.if-state-lt-BYTES.false)

pub returns : goal.returns
unfolding state_bytes
returns c =
    let A = c.args in
    let some = part_is A.at A.most A.n A.state.now c.if-most-n.false c.if-state-lt-BYTES.false in
    let size : A.at + 2 * A.n - A.at ≡ 2 * A.n = omega arith in
    record { shows = rw (some.1, size); points = rw some.0 }
