-- `lists::entry` meets its contract, by each of the two tests in turn.
-- Assumes nothing.
use mathlib.Core.Path.{◌≡◌, sym, ap}
use native.Mathlib.Nat.{zero-add}
use Prim.Native.Nat.{ℕ, ◌+◌, ◌-◌, ◌*◌, ◌≤◌}
use Rattle.lists.specs.Lists.{entry_at}
use Rattle.lists.proofs.AtArrival.{entry_end, too_late, too_short, is_entry_lem, no_part, some-part}
use native.Mathlib.Omega.{arith}
use Rattle.lists.proofs.entry.Goals as goal
use Rattle.lists.proofs.entry.Goals.{After-stride-size}

pub returns-then-arrival-ge-MOST_ROWS : goal.returns-then-arrival-ge-MOST_ROWS
unfolding entry_at
returns-then-arrival-ge-MOST_ROWS c =
    let A = c.args in
    let none = no_part A.l A.arrival.0 A.list.now (too_late A.l A.arrival.0 A.list.now c.if-arrival-ge-MOST_ROWS.true) in
    record { shows = rw none.1; points = rw none.0 (ap (λ (k : ℕ). (A.list.ref_ptr.0, k)) (sym (zero-add _))) }

-- where the entry ends
ends : (c : After-stride-size) → c.args.arrival.0 * c.stride-size.result + c.stride-size.result ≤ 140000
ends c =
    entry_end c.args.l c.args.arrival.0 c.stride-size.result c.stride-size.ensures (omega (arith, c.ranges.l)) c.if-arrival-ge-MOST_ROWS.false

pub overflow_mul-at : goal.overflow_mul-at
overflow_mul-at c = omega (arith, ends (goal.at.overflow_mul-at c).After-stride-size)

pub overflow_add-end : goal.overflow_add-end
overflow_add-end c = omega (arith, ends (goal.at.overflow_add-end c).After-stride-size)

pub returns-then-list-end : goal.returns-then-list-end
unfolding entry_at
returns-then-list-end c =
    let A = c.args in
    let none = no_part A.l A.arrival.0 A.list.now (too_short A.l A.arrival.0 A.list.now c.if-arrival-ge-MOST_ROWS.false
    (rw (← c.stride-size.ensures) c.if-list-end.true)) in
    record { shows = rw none.1; points = rw none.0 (ap (λ (k : ℕ). (A.list.ref_ptr.0, k)) (sym (zero-add _))) }

pub returns : goal.returns
unfolding entry_at
returns c =
    let A = c.args in
    let size = c.stride-size.result in
    let some = some-part A.l A.arrival.0 A.list.now (is_entry_lem A.l A.arrival.0 A.list.now c.if-arrival-ge-MOST_ROWS.false
    (rw (← c.stride-size.ensures) c.if-list-end.false)) in
    let wide : A.arrival.0 * size + size - A.arrival.0 * size ≡ size = omega arith in
    record { shows = rw (some.0, some.1, wide, c.stride-size.ensures); points = rw (some.0, c.stride-size.ensures) }
