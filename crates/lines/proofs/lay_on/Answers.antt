-- `lines::lay_on` is safe: a row that was laid is one of the first 512.
-- Assumes nothing.
use mathlib.Core.Path.{sym, ap, ◌∙◌}
use Prim.Native.Nat.{◌≤◌}
use native.Mathlib.Omega.{arith}
use Rattle.std.proofs.Common.{is_ok}
use Rattle.laying.specs.Laying as laying
use Rattle.lines.proofs.Takes.{laid-within, result_row}
use Rattle.lines.proofs.lay_on.Goals as goal

pub overflow_add-rows : goal.overflow_add-rows
overflow_add-rows c =
    let args = c.args in
    let lay = c.lay-answer in
    let none = result_row (laying.number_of lay.result) (laying.place_of lay.result) (ap is_ok (sym c.line_of_laid-line.ensures) ∙ sym c.is_ok.ensures.value ∙ c.if-is_ok.true) in
    let within : args.rows ≤ 511 = laid-within args.page args.frame.now args.rows args.list.now (rw lay.ensures.answer at none) in
    omega arith
