use mathlib.Core.List.{List}
use Prim.Native.Nat.{ℕ, ◌-◌}
use Rattle.state.specs.Layout.{order_in}
use Rattle.echelon.specs.Eliminating.{Elimination, absorb_in}
use Rattle.echelon.proofs.Turning.{Turning}
use Rattle.echelon.proofs.absorb_each.Given as goal

-- what the whole order comes to
abbrev pub whole : (l : ℕ) (list : List ℕ) (taken : ℕ) (state : List ℕ) → Elimination
whole l list taken state = absorb_in l list (order_in taken state) (record { state = state; rank = 0 })

abbrev pub invariant-loop-i : goal.invariant-loop-i
invariant-loop-i l = Turning l.l l.list l.taken (whole l.l l.list l.taken l.initial.state) l.initial.state l.state l.rank l.i

abbrev pub decreases-loop-i : goal.decreases-loop-i
decreases-loop-i l = l.taken - l.i
