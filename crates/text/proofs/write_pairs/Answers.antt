-- `text::write_pairs` meets its contract. The loop's invariant: the first i pairs stand written over the frame.
-- Assumes nothing.
use mathlib.Core.Path.{sym, ap₂, ◌∙◌}
use Prim.Native.Nat.{◌+◌, ◌*◌, ◌/◌}
use native.Mathlib.Omega.{arith}
use lib.ListN.{length}
use Rattle.octets.proofs.Fill.{filling_more, filling_end}
use Rattle.text.specs.Hex.{pairs}
use Rattle.text.proofs.Digits.{digit-most, worth_digit, digits_at, length_pairs, pairs_at}
use Rattle.text.proofs.write_pairs.Goals as goal

pub unwrap-high-requires : goal.unwrap-high-requires
unwrap-high-requires c =
    rw c.digit.ensures (digits_at c.args.line.now (2 * c.loop-i.i) c.requires.line_value (omega arith))

pub unwrap-low-requires : goal.unwrap-low-requires
unwrap-low-requires c =
    rw c.digit-in-loop-i.ensures (digits_at c.args.line.now (2 * c.loop-i.i + 1) c.requires.line_value (omega arith))

pub overflow_mul-frame : goal.overflow_mul-frame
overflow_mul-frame c = omega (arith, digit-most _ _ (sym c.digit.ensures ∙ c.unwrap-high.ensures))

pub overflow_add-frame : goal.overflow_add-frame
overflow_add-frame c =
    let high = digit-most _ _ (sym c.digit.ensures ∙ c.unwrap-high.ensures) in
    let low = digit-most _ _ (sym c.digit-in-loop-i.ensures ∙ c.unwrap-low.ensures) in
    omega arith

pub loop-i-preserved : goal.loop-i-preserved
loop-i-preserved c =
    let loop = c.loop-i in
    let line = c.args.line.now in
    let high = worth_digit _ _ (sym c.digit.ensures ∙ c.unwrap-high.ensures) in
    let low = worth_digit _ _ (sym c.digit-in-loop-i.ensures ∙ c.unwrap-low.ensures) in
    filling_more (pairs line) c.args.frame.now (length line / 2) (length_pairs line) c.requires.line_in_bounds loop.frame loop.i loop.invariant (omega arith) _
    (ap₂ (λ h l. h * 16 + l) (sym high) (sym low) ∙ pairs_at line loop.i (omega arith))

pub returns : goal.returns
returns c =
    let loop = c.loop-i in
    let line = c.args.line.now in
    filling_end (pairs line) c.args.frame.now (length line / 2) (length_pairs line) c.requires.line_in_bounds loop.frame loop.i loop.invariant (omega arith)
