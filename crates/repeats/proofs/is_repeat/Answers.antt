-- `is_repeat` meets its contract: the entry is looked for among those before it, where the list has it.
-- Assumes nothing.
use mathlib.Core.Path.{sym, ap, ◌∙◌}
use mathlib.Core.List.{List}
use Prim.Native.Nat.{ℕ}
use lib.ListN.{length}
use Rattle.octets.specs.Octets.{number, numbers}
use Rattle.reading.specs.Orders.{among}
use Rattle.repeats.proofs.Repeated.{Found, no_repeat, some_repeat}
use Rattle.repeats.proofs.is_repeat.Goals as goal
use Rattle.repeats.proofs.is_repeat.Goals.{Else-entry-eq0}

pub returns-then-entry-eq0 : goal.returns-then-entry-eq0
returns-then-entry-eq0 c =
    let A = c.args in
    no_repeat A.l A.arrival.0 A.list.now (ap length (sym c.entry-entry.ensures.shows) ∙ c.if-entry-eq0.true)

found : (c : Else-entry-eq0) → Found c.args.l c.args.arrival.0 c.args.list.now
found c =
    let A = c.args in
    some_repeat A.l A.arrival.0 A.list.now (λ e. c.if-entry-eq0.false (ap length c.entry-entry.ensures.shows ∙ e))

pub is_among-requires : goal.is_among-requires
is_among-requires c = record { room = rw c.entry-entry.ensures.shows (found c).room; wide = rw c.entry-entry.ensures.shows (found c).wide }

pub returns : goal.returns
returns c =
    let A = c.args in
    c.is_among.ensures
    ∙ ap (λ (entry : List ℕ). among (numbers (length entry) A.arrival.0 A.list.now) (number entry)) c.entry-entry.ensures.shows ∙ (found (goal.at.returns c).Else-entry-eq0).tells
