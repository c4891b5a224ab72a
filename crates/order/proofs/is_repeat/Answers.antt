-- `is_repeat` meets its contract: a seed that was not noted is one of no earlier row, and after one that was, the rows are compared.
-- Assumes nothing.
use native.Mathlib.Omega.{arith}
use mathlib.Core.Path.{◌≡◌, sym, ap, ◌∙◌}
use Prim.Native.Nat.{ℕ}
use Rattle.octets.proofs.Runs.{known_below}
use Rattle.noting.specs.Noting.{noted_in, noted_state}
use Rattle.order.specs.Listed.{seed_at}
use Rattle.order.proofs.Seeds.{seed_at_lem, told-new}
use Rattle.order.proofs.is_repeat.Goals as goal
use Rattle.order.proofs.is_repeat.Goals.{After-note}

-- what noting the seed told, and the state with it noted
noting : (c : After-note)
    → (c.note.result ≡ noted_in (seed_at c.args.l c.args.list.now c.args.arrival.0) c.args.state.now)
    × (c.note.new.state ≡ noted_state (seed_at c.args.l c.args.list.now c.args.arrival.0) c.args.state.now)
noting c =
    let A = c.args in
    let N = c.requires in
    let is : c.seed.result ≡ seed_at A.l A.list.now A.arrival.0 =
    c.seed.ensures ∙ seed_at_lem A.l A.arrival.0 A.list.now (omega (arith, N.has, N.many)) N.has
    (known_below A.list.now c.type_inv.list) in
    (c.note.ensures.answer ∙ ap (λ (s : ℕ). noted_in s A.state.now) is, c.note.ensures.state ∙ ap (λ (s : ℕ). noted_state s A.state.now) is)

pub returns-then-note : goal.returns-then-note
returns-then-note c = record { answer = c.is_repeat.ensures; state = (noting (goal.at.returns-then-note c).After-note).1 }

pub returns-else-note : goal.returns-else-note
returns-else-note c =
    let N = noting (goal.at.returns-else-note c).After-note in
    record { answer = c.if-note.false ∙ told-new c.args.l c.args.arrival.0 c.args.list.now c.args.state.now c.requires (sym N.0 ∙ c.if-note.false); state = N.1 }
