-- `eliminate` meets its contract: what fits is taken in from an empty state, whose order is as it was, and nothing is written else.
-- Assumes nothing.
use native.Mathlib.Omega.{arith}
use mathlib.Core.Path.{◌≡◌, sym, ap, ap₂, ◌∙◌}
use mathlib.Core.List.{List}
use Prim.Native.Nat.{ℕ}
use lib.ListN.{length}
use Rattle.state.specs.Layout.{order_in}
use Rattle.state.specs.Written.{emptied}
use Rattle.views.proofs.Emptied.{emptied-order}
use Rattle.std.specs.Prelude.{Some}
use Rattle.echelon.specs.Eliminating.{Elimination, absorb_in, Eliminates}
use Rattle.echelon.proofs.Outcomes.{eliminates_so, whole, eliminated_so}
use Rattle.echelon.proofs.eliminate.Goals as goal

pub absorb_each-requires : goal.absorb_each-requires
absorb_each-requires c =
    let A = c.args in
    let E : Eliminates A.l A.taken (length A.state.now) =
    eliminates_so A.l A.taken (length A.state.now) (sym c.eliminating.ensures ∙ c.if-not-eliminating.false) in
    record { few = E.many; whole = omega (arith, E.whole, c.clear.auto.state) }

-- the order is read from the state made empty, and is that of the state
from-cleared : (l : ℕ) (list : List ℕ) (taken : ℕ) (state cleared : List ℕ) → cleared ≡ emptied state
    → absorb_in l list (order_in taken cleared) (record { state = cleared; rank = 0 }) ≡ whole l list taken state
from-cleared l list taken state cleared e =
    ap₂ (λ (order s : List ℕ). absorb_in l list order (record { state = s; rank = 0 })) (ap (order_in taken) e ∙ emptied-order state taken) e

pub returns : goal.returns
returns c =
    let A = c.args in
    let e = eliminated_so A.l A.list.now A.taken A.state.now (sym c.eliminating.ensures ∙ c.if-not-eliminating.false) in
    let s = c.clear in
    let all = from-cleared A.l A.list.now A.taken A.state.now s.new.state s.ensures in
    let a = c.absorb_each in
    record { answer = ap Some (a.ensures.rank ∙ ap (λ (w : Elimination). w.rank) all) ∙ e.0; state = a.ensures.state ∙ ap (λ (w : Elimination). w.state) all ∙ e.1 }
