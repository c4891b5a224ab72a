-- `apart::append` meets its contract: the entry of a row that does not agree is laid behind the others.
-- Assumes nothing.
use mathlib.Core.Path.{◌≡◌, refl, sym, ap, ◌∙◌}
use Prim.Native.Nat.{◌+◌, ◌-◌, ◌*◌}
use native.Mathlib.Numerals.{add-one}
use lib.ListN.{length, take, drop}
use Rattle.octets.proofs.Lay.{copied}
use Rattle.octets.proofs.Views.{length_part}
use Rattle.octets.proofs.Parts.{back}
use Rattle.apart.specs.Apart.{appended, gathers}
use native.Mathlib.Omega.{arith}
use Rattle.apart.proofs.append.Goals as goal

pub returns-then-agrees : goal.returns-then-agrees
unfolding appended
returns-then-agrees c = rw (sym c.agrees.ensures ∙ c.if-agrees.true)

pub overflow_add-result : goal.overflow_add-result
overflow_add-result c = omega (arith, c.requires.few)

pub returns : goal.returns
unfolding appended
returns c =
    let w = length c.args.entry.now in
    let at = c.args.k * w in
    let wide : at + w - at ≡ w = omega arith in
    let part : length (take (at + w - at) (drop at c.args.list.now)) ≡ w = rw wide (length_part w at c.args.list.now c.requires.room) in
    let laid : c.copy.new.into ≡ c.args.entry.now = c.copy.ensures ∙ copied w c.args.entry.now (take (at + w - at) (drop at c.args.list.now)) refl part in
    rw (sym c.agrees.ensures ∙ c.if-agrees.false)
    (rw (add-one c.args.k) (ap (gathers _) (back at (at + w - at) c.copy.new.into c.args.list.now (ap length laid ∙ sym wide) ∙ rw laid)))
