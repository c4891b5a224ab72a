-- `spelling::write_digits` meets its contract. The loop's invariant: the digits of the first i bytes stand written over the text.
-- Assumes nothing.
use Prim.Native.Nat.{◌*◌, ◌≤◌}
use native.Mathlib.Omega.{arith}
use lib.ListN.{length, length-set}
use Rattle.octets.proofs.Fill.{filling_start, filling_end}
use Rattle.spelling.specs.Spelling.{spelling}
use Rattle.spelling.proofs.Spelt.{length-spelling, spelling-more}
use Rattle.spelling.proofs.write_digits.Goals as goal

pub loop-i-init : goal.loop-i-init
loop-i-init c = filling_start _ _ _

pub letter-requires : goal.letter-requires
letter-requires c = omega (arith, c.type_inv.bytes c.loop-i.i)

pub bounds-text-i-in-loop-i : goal.bounds-text-i-in-loop-i
bounds-text-i-in-loop-i c = simp length-set (omega arith)

pub loop-i-preserved : goal.loop-i-preserved
loop-i-preserved c =
    let loop = c.loop-i in
    let bytes = c.args.bytes.now in
    rw (c.letter.ensures, c.letter-in-loop-i.ensures)
    (spelling-more bytes c.args.text.now loop.text loop.i c.requires (omega arith) loop.invariant)

pub shape_of-text : goal.shape_of-text
shape_of-text c = c.loop-i.invariant.long

pub returns : goal.returns
returns c =
    let loop = c.loop-i in
    let bytes = c.args.bytes.now in
    let room : 2 * length bytes ≤ length c.args.text.now = omega arith in
    filling_end (spelling bytes) c.args.text.now (2 * length bytes) (length-spelling bytes) room loop.text (2 * loop.i) loop.invariant (omega arith)
