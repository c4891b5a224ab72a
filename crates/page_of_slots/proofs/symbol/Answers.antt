-- `symbol` meets its contract: what the pass of (2^k, 0) leaves behind the constraint.
-- Assumes nothing.
use mathlib.Core.Path.{◌≡◌, ap, ◌∙◌}
use Prim.Native.Nat.{ℕ, ◌-◌}
use native.Mathlib.Omega.{arith}
use mathlib.Core.List.{List}
use lib.ListN.{length, take, drop, length-drop}
use lib.Seq.{take_all, length-take-le}
use Rattle.octets.specs.Octets.{over}
use Rattle.octets.proofs.Lay.{over-all}
use Rattle.page_of_slots.specs.Parts.{unit_of}
use Rattle.entering.proofs.Slots.{whole-left}
use Rattle.page_of_slots.proofs.Units.{symbol-left}
use Rattle.page_of_slots.proofs.symbol.Goals as goal
use Rattle.page_of_slots.proofs.symbol.Goals.{After-pass}

pub unit-requires : goal.unit-requires
unit-requires c = record { wide = omega (arith, c.requires.ready.one); bit = c.requires.bit }

-- what the pass leaves is as long as work
long : (c : After-pass) → length c.pass.new.work ≡ 80
long c = c.pass.auto.work ∙ c.unit.auto.work ∙ c.requires.ready.one

pub slice_bounds-copy-count : goal.slice_bounds-copy-count
slice_bounds-copy-count c = omega (arith, long (goal.at.slice_bounds-copy-count c).After-pass)

pub slice_bounds-copy-start : goal.slice_bounds-copy-start
slice_bounds-copy-start c = omega (arith, long (goal.at.slice_bounds-copy-start c).After-pass)

pub returns : goal.returns
returns c =
    let out : List ℕ = c.args.out.now in
    let left : List ℕ = c.pass.new.work in
    let part : List ℕ = take (length out) (drop 8 left) in
    let all : take (length left - 8) (drop 8 left) ≡ drop 8 left = take_all (length left - 8) (drop 8 left) (omega (arith, length-drop 8 left)) in
    let size : length part ≡ length out = length-take-le (length out) (drop 8 left) (omega (arith, length-drop 8 left, long (goal.at.returns c).After-pass, c.requires.ready.most)) in
    let unit : c.unit.new.work ≡ unit_of 80 c.args.k = c.unit.ensures ∙ ap (λ (w : ℕ). unit_of w c.args.k) c.requires.ready.one in
    c.copy.ensures ∙ ap (λ (t : List ℕ). over (take (length out) t) out) all ∙ over-all part out size
    ∙ symbol-left (length out) c.args.k c.args.slots.now c.unit.new.work left (omega (arith, c.requires.ready.most)) c.requires.bit unit
    (c.pass.ensures.left ∙ whole-left c.args.slots.now c.unit.new.work (c.unit.auto.work ∙ c.requires.ready.one) c.requires.ready.all)
