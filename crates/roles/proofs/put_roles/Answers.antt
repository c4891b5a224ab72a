-- `roles::put_roles` meets its contract: a loop that marks arrival by arrival, where there is room for each.
-- Assumes nothing.
use mathlib.Core.Path.{sym}
use borrow.Author.Tests.{le-leb, lt-leb}
use Rattle.roles.specs.Role.{roles_marked, roles_after}
use Rattle.marks.proofs.Written.{whole}
use Rattle.marks.proofs.Marking.{marked_more, marked_end}
use Rattle.roles.proofs.put_roles.Goals as goal

pub returns-then-roles-rows : goal.returns-then-roles-rows
unfolding roles_after
returns-then-roles-rows c = rw (lt-leb _ _ c.if-roles-rows.true)

pub loop-arrival-init : goal.loop-arrival-init
loop-arrival-init c = sym (whole.nothing _)

pub loop-arrival-preserved : goal.loop-arrival-preserved
loop-arrival-preserved c =
    let loop = c.loop-arrival in
    marked_more _ _ _ whole _ _ _ loop.arrival c.loop-arrival-test.true c.if-roles-rows.false c.role_at.result c.role_at.ensures _ _ loop.invariant c.set_role.ensures

pub returns : goal.returns
unfolding roles_after roles_marked
returns c =
    rw (le-leb _ _ c.if-roles-rows.false, ← c.least_marked-least.ensures)
    (marked_end _ _ _ whole _ _ _ _ c.loop-arrival-test.false _ c.loop-arrival.invariant)
