-- `lists::row` meets its contract: the row is what stands in the entry behind its seed.
-- Assumes nothing.
use mathlib.Core.Path.{◌≡◌, ap, ◌∙◌}
use Prim.Native.Nat.{ℕ, ◌+◌, ◌-◌}
use native.Mathlib.Omega.{arith}
use mathlib.Core.List.{List}
use lib.ListN.{length, take, drop, length-drop}
use lib.Seq.{take_all}
use Rattle.lists.specs.Lists.{start_of, row_start, row_at}
use Rattle.lists.proofs.AtArrival.{row_none, row-some}
use Rattle.lists.proofs.row.Goals as goal

pub returns-then-whole-lt-SEED : goal.returns-then-whole-lt-SEED
returns-then-whole-lt-SEED c =
    let A = c.args in
    let shows = c.entry-whole.ensures.shows in
    let none = row_none A.l A.arrival.0 A.list.now (omega (arith, ap length shows, c.if-whole-lt-SEED.true)) in
    record { shows = shows ∙ none.0; points = c.entry-whole.ensures.points ∙ ap (λ (k : ℕ). (A.list.ref_ptr.0, k + A.list.ref_ptr.1)) none.1 }

rest : (xs : List ℕ) → take (length xs - 4) (drop 4 xs) ≡ drop 4 xs
rest xs = take_all (length xs - 4) (drop 4 xs) (omega (arith, length-drop 4 xs))

pub returns : goal.returns
unfolding row_at
returns c =
    let A = c.args in
    let whole = c.entry-whole in
    let start = row-some A.l A.arrival.0 A.list.now (omega (arith, ap length whole.ensures.shows, c.if-whole-lt-SEED.false)) in
    let last : ℕ = A.list.ref_ptr.1 in
    let behind : 4 + (start_of A.l A.arrival.0 A.list.now + last) ≡ row_start A.l A.arrival.0 A.list.now + last = omega (arith, start) in
    record { shows = rest whole.result.now ∙ ap (drop 4) whole.ensures.shows; points = ap (λ (p : ℕ × ℕ). (p.0, 4 + p.1)) whole.ensures.points ∙ ap (λ (k : ℕ). (A.list.ref_ptr.0, k)) behind }
