-- `take_in` meets its contract: the vector that the pass leaves is kept or counted, and nothing is written where no kept place is left.
-- Assumes nothing.
use native.Mathlib.Omega.{arith}
use mathlib.Core.Path.{◌≡◌, refl, sym, ap, ap₂, ◌∙◌}
use mathlib.Core.List.{List}
use Prim.Native.Nat.{ℕ}
use lib.ListN.{length}
use Rattle.octets.specs.Octets.{number}
use Rattle.octets.proofs.Numbers.{length-bytes}
use Rattle.basis.specs.Algorithm2.{Pass}
use Rattle.tally.specs.Tally.{most_kept}
use Rattle.state.specs.Layout.{vector_bytes}
use Rattle.keeping.specs.Keeping.{kept_state}
use Rattle.counting.specs.Counting.{counted_state}
use Rattle.state.proofs.Sizes.{sizes}
use Rattle.absorb.specs.Absorbing.{Absorption, pass_in}
use Rattle.absorb.proofs.Absorbing.{Takes, takes_so, taken-other, taken-kept, taken_full}
use Rattle.absorb.proofs.Passing.{tail-bytes}
use Rattle.absorb.proofs.take_in.Goals as goal
use Rattle.absorb.proofs.take_in.Goals.{After-attempt-t, Start}

abbrev Fit : (c : Start) → Type 0
Fit c = Takes (length c.args.row.now) c.args.arrival.0 c.args.rank (length c.args.state.now)

fit : (c : Start) → Fit c
fit c = takes_so (length c.args.row.now) c.args.arrival.0 c.args.rank (length c.args.state.now) c.requires

pub attempt-t-requires-clause-empty : goal.attempt-t-requires-clause-empty
unfolding vector_bytes
attempt-t-requires-clause-empty c = refl

pub attempt-t-requires-clause-row : goal.attempt-t-requires-clause-row
attempt-t-requires-clause-row c = (fit (goal.at.attempt-t-requires-clause-row c).Start).high

pub attempt-t-requires-clause-whole : goal.attempt-t-requires-clause-whole
attempt-t-requires-clause-whole c = (fit (goal.at.attempt-t-requires-clause-whole c).Start).whole

-- the vector has 80 bytes all the time
long : (c : After-attempt-t) → length c.attempt-t.new.work ≡ vector_bytes
long c = ap length c.attempt-t.ensures.left ∙ length-bytes vector_bytes _

pub overflow_mul-key : goal.overflow_mul-key
overflow_mul-key c = omega (arith, (fit (goal.at.overflow_mul-key c).Start).high)

pub slice_bounds-count-end : goal.slice_bounds-count-end
slice_bounds-count-end c = omega (arith, sizes, long (goal.at.slice_bounds-count-end c).After-attempt-t)

pub returns-then-key-t : goal.returns-then-key-t
returns-then-key-t c =
    let A = c.args in
    let a = c.attempt-t in
    let p : Pass = pass_in (length A.row.now) (number A.row.now) A.state.now in
    let e = taken-other (length A.row.now) p A.arrival.0 A.rank A.state.now (rw a.ensures.stop at c.if-key-t.true) in record {
      answer = sym (ap (λ (o : Absorption). o.answer) e);
      state = c.count.ensures
          ∙ ap (λ (v : List ℕ). counted_state v A.arrival.0 A.rank A.state.now) (tail-bytes p.vector a.new.work a.ensures.left)
          ∙ sym (ap (λ (o : Absorption). o.state) e);
    }

pub returns-then-rank-lt-MOST_KEPT : goal.returns-then-rank-lt-MOST_KEPT
unfolding most_kept
returns-then-rank-lt-MOST_KEPT c =
    let A = c.args in
    let a = c.attempt-t in
    let p : Pass = pass_in (length A.row.now) (number A.row.now) A.state.now in
    let e = taken-kept (length A.row.now) p A.arrival.0 A.rank A.state.now (rw a.ensures.stop at c.if-key-t.false) c.if-rank-lt-MOST_KEPT.true in record {
      answer = sym (ap (λ (o : Absorption). o.answer) e);
      state = c.keep.ensures
          ∙ ap₂ (λ (t : ℕ) (v : List ℕ). kept_state t v A.arrival.0 A.rank A.state.now) a.ensures.stop a.ensures.left
          ∙ sym (ap (λ (o : Absorption). o.state) e);
    }

pub returns-else-rank-lt-MOST_KEPT : goal.returns-else-rank-lt-MOST_KEPT
unfolding most_kept
returns-else-rank-lt-MOST_KEPT c =
    let A = c.args in
    let a = c.attempt-t in
    let p : Pass = pass_in (length A.row.now) (number A.row.now) A.state.now in
    let e = taken_full (length A.row.now) p A.arrival.0 A.rank A.state.now (rw a.ensures.stop at c.if-key-t.false) c.if-rank-lt-MOST_KEPT.false in
    record { answer = sym (ap (λ (o : Absorption). o.answer) e); state = sym (ap (λ (o : Absorption). o.state) e) }
