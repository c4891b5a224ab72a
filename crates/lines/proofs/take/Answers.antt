-- `lines::take` meets its contract: what the answer of `unhex` tells of the line decides.
-- Assumes nothing.
use mathlib.Core.Path.{sym, ap, ◌∙◌}
use mathlib.Core.List.{List}
use Prim.Native.Nat.{ℕ}
use native.Mathlib.Omega.{arith}
use Rattle.std.proofs.Common.{replicate}
use Rattle.text.proofs.Unhexed.{bytes-told, none_told}
use Rattle.lines.specs.Taking.{LineTaken, take_frame}
use Rattle.lines.proofs.Takes.{line_bad, line_good}
use Rattle.lines.proofs.take.Goals as goal

pub returns-in_default : goal.returns-in_default
returns-in_default c =
    let args = c.args in
    let none = none_told args.line.now (replicate 128 0) (omega arith) (λ k e. c.in_default.not-Ok k (c.unhex.ensures.answer ∙ e)) in
    let is = line_bad args.line.now args.sheet args.list.now none in
    record { taken = ap (λ (o : LineTaken). o.taken) is; list = ap (λ (o : LineTaken). o.list) is }

-- a good line: its bytes stand in the frame
pub returns : goal.returns
returns c =
    let args = c.args in
    let unhex = c.unhex in
    let told = bytes-told args.line.now _ c.in-Ok.k (sym unhex.ensures.answer ∙ c.in-Ok.is) in
    let left = c.take_frame.ensures in
    let is =
    ap (λ (frame : List ℕ). take_frame frame args.sheet args.list.now) (rw unhex.ensures.frame told.2)
    ∙ line_good args.line.now args.sheet args.list.now told.0 in
    record { taken = left.taken ∙ ap (λ (o : LineTaken). o.taken) is; list = left.list ∙ ap (λ (o : LineTaken). o.list) is }
