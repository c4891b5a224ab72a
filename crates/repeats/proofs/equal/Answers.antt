-- `equal` meets its contract: before each turn the first i bytes are the same, and the last eight tell of the rest.
-- Assumes nothing.
use native.Mathlib.Omega.{arith}
use mathlib.Core.Path.{◌≡◌, sym, ap₂, ◌∙◌}
use Prim.Native.Nat.{ℕ, ◌+◌, ◌-◌, ◌≤◌}
use lib.Dec.{eqb}
use lib.ListN.{length}
use Rattle.octets.specs.Octets.{number}
use Rattle.octets.proofs.Runs.{known_below}
use Rattle.littles.specs.Littles.{little_at}
use Rattle.repeats.proofs.Alike.{Alike, alike_start, alike_more, alike_end, unequal_at}
use Rattle.repeats.proofs.equal.Goals as goal
use Rattle.repeats.proofs.equal.Goals.{else-loop-i-test, then-loop-i-test+else-little+else-last-i-gt8}

pub loop-i-init : goal.loop-i-init
loop-i-init c = alike_start c.args.a.now c.args.b.now

pub returns-then-little : goal.returns-then-little
returns-then-little c =
    unequal_at c.args.a.now c.args.b.now c.requires.as_long (known_below c.args.a.now c.type_inv.a) (known_below c.args.b.now c.type_inv.b) c.loop-i.i
    (λ e. c.if-little.true (c.little.ensures ∙ e ∙ sym c.little-in-loop-i.ensures))

pub loop-i-preserved : goal.loop-i-preserved
loop-i-preserved c =
    alike_more c.args.a.now c.args.b.now c.requires.as_long (known_below c.args.a.now c.type_inv.a) (known_below c.args.b.now c.type_inv.b) c.loop-i.i c.loop-i.invariant
    (omega (arith, c.loop-i-test.true)) (sym c.little.ensures ∙ c.if-little.false ∙ c.little-in-loop-i.ensures)

pub returns : goal.returns
returns c =
    let a = c.args.a.now in
    let b = c.args.b.now in
    let l = c.loop-i in
    let p = known_below a c.type_inv.a in
    let q = known_below b c.type_inv.b in
    let end : (i : ℕ) → Alike a b i → length a - 8 ≤ i → eqb (little_at (length a - 8) a) (little_at (length a - 8) b) ≡ eqb (number a) (number b)
    = λ i A h. alike_end a b c.requires.as_long p q i A (length a - 8) (omega (arith, c.requires.wide)) h in
    ap₂ eqb c.little-2.ensures c.little-3.ensures ∙ elim c.loop-i-test.branch [
      | else-loop-i-test w ↦ end l.i l.invariant (omega arith)
      | then-loop-i-test+else-little+else-last-i-gt8 w ↦
          end (l.i + 8) (alike_more a b c.requires.as_long p q l.i l.invariant (omega (arith, w.loop-i-test.true)) (sym w.little.ensures ∙ w.if-little.false ∙ w.little-in-loop-i.ensures)) (omega arith)
    ]
