-- `page_of_slots::write` meets its contract: a shape in range has at most 64 symbols of at most 32 bytes.
-- Assumes nothing.
use mathlib.Core.Path.{refl, sym, ◌∙◌}
use native.Mathlib.Omega.{arith}
use Rattle.rows.specs.Range.{InRange}
use Rattle.rows.proofs.Shape.{shape_range}
use Rattle.entering.specs.Enter.{slot_bytes}
use Rattle.page_of_slots.proofs.write.Goals as goal
use Rattle.page_of_slots.proofs.write.Goals.{Then-shaped}

range : (c : Then-shaped) → InRange c.args.n c.args.l
range c = shape_range c.args.n c.args.l (sym c.shaped.ensures ∙ c.if-shaped.true)

pub symbols-requires-clause-ready : goal.symbols-requires-clause-ready
unfolding slot_bytes
symbols-requires-clause-ready c =
    record { least = omega arith; most = omega (arith, (range (goal.at.symbols-requires-clause-ready c).Then-shaped).l_high); one = refl; all = c.if-slots-eq-SLOTS.true }

pub symbols-requires-clause-few : goal.symbols-requires-clause-few
symbols-requires-clause-few c = (range (goal.at.symbols-requires-clause-few c).Then-shaped).n_high
