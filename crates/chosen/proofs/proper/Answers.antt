-- `chosen::proper` meets its contract: where the tests are passed, what the rows add tells.
-- Assumes nothing.
use mathlib.Core.Path.{◌≡◌, sym, ap, ◌∙◌}
use mathlib.Core.Bool.{true, true≢false}
use Prim.Native.Nat.{ℕ, ◌≤◌}
use borrow.Author.Tests.{le-leb, leb-true}
use lib.Dec.{eqb}
use lib.ListN.{length}
use Rattle.rows.specs.Rows.{shape, row_count, rows_of}
use Rattle.rows.proofs.Shape.{shape_range}
use Rattle.reading.specs.Outcome.{whole_rows}
use Rattle.reading.proofs.Checks.{most-512}
use Rattle.chosen.specs.Chosen.{chosen, listed, proper}
use Rattle.chosen.proofs.Weights.{weight_tells}
use Rattle.chosen.proofs.proper.Goals as goal
use Rattle.chosen.proofs.proper.Goals.{Then-count-roles, then-shaped, else-shaped, then-whole, else-whole}

-- what passed the tests
record Passed (c : Then-count-roles) : Type 0 where
  pub in-shape : shape c.args.n c.args.l ≡ true
  pub in_rows : whole_rows c.args.l c.args.list.now ≡ true
  pub known : row_count c.args.l c.args.list.now ≤ length c.args.roles.now

passed : (c : Then-count-roles) → Passed c
unfolding row_count
passed c =
    elim c.if-whole.branch [
      | then-whole w ↦ elim c.if-shaped.branch [
        | then-shaped v ↦ record {
          in-shape = sym c.shaped.ensures ∙ v.if-shaped.true;
          in_rows = sym v.whole.ensures ∙ sym v.value-is ∙ w.if-whole.true;
          known = rw w.count.ensures at (leb-true w.count.result (length c.args.roles.now) (sym w.value-is ∙ c.if-count-roles.true));
        }
        | else-shaped v ↦ absurd (true≢false (sym w.if-whole.true ∙ v.value-is ∙ v.if-shaped.false))
      ]
      | else-whole w ↦ absurd (true≢false (sym c.if-count-roles.true ∙ w.value-is ∙ w.if-whole.false))
    ]

pub adding-requires-clause-few : goal.adding-requires-clause-few
adding-requires-clause-few c = most-512 c.args.l c.args.list.now (passed c).in_rows

pub returns-then-count-roles : goal.returns-then-count-roles
unfolding proper listed
returns-then-count-roles c =
    let A = c.args in
    let P = passed (goal.at.returns-then-count-roles c).Then-count-roles in
    simp (P.in-shape, P.in_rows, le-leb (row_count A.l A.list.now) (length A.roles.now) P.known)
    (ap (λ (k : ℕ). eqb k A.n) c.adding.ensures ∙ weight_tells A.n A.l (chosen A.roles.now (rows_of A.l A.list.now)) (shape_range A.n A.l P.in-shape).n_high)
