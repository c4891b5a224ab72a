-- `is_among` meets its contract: from the last entry back, none of those looked at is equal.
-- Assumes nothing.
use native.Mathlib.Omega.{arith}
use mathlib.Core.Path.{◌≡◌, sym, ap, ◌∙◌}
use Prim.Native.Nat.{ℕ, ◌+◌, ◌-◌, ◌*◌, ◌≤◌}
use mathlib.Core.List.{List}
use lib.Dec.{eqb}
use lib.ListN.{length, take, drop}
use Rattle.octets.specs.Octets.{number}
use Rattle.octets.proofs.Views.{length_part}
use Rattle.repeats.proofs.Behind.{behind-start, behind-room, behind_found, behind_less, behind_end}
use Rattle.repeats.proofs.is_among.Goals as goal
use Rattle.repeats.proofs.is_among.Goals.{After-same, In-loop-i}

pub loop-i-init : goal.loop-i-init
loop-i-init c = let A = c.args in behind-start A.entry.now A.list.now A.m

-- where the entry lies that a turn looks at
room : (c : In-loop-i) → (c.loop-i.i - 1) * length c.args.entry.now + length c.args.entry.now
    ≤ length c.args.list.now
room c =
    behind-room c.args.entry.now c.args.list.now c.args.m c.requires.room c.loop-i.i c.loop-i.invariant c.loop-i-test.true

-- its bytes
part : (i w : ℕ) (list : List ℕ) → take ((i - 1) * w + w - (i - 1) * w) (drop ((i - 1) * w) list) ≡ take w (drop ((i - 1) * w) list)
part i w list = let wide : (i - 1) * w + w - (i - 1) * w ≡ w = omega arith in ap (λ (k : ℕ). take k (drop ((i - 1) * w) list)) wide

pub same-requires : goal.same-requires
same-requires c =
    let w = length c.args.entry.now in
    record {
      as_long = sym (ap length (part c.loop-i.i w c.args.list.now) ∙ length_part w ((c.loop-i.i - 1) * w) c.args.list.now (room (goal.at.same-requires c).In-loop-i));
      wide = c.requires.wide;
    }

looked : (c : After-same) → c.same.result ≡
    eqb (number c.args.entry.now) (number (take (length c.args.entry.now)
    (drop ((c.loop-i.i - 1) * length c.args.entry.now) c.args.list.now)))
looked c =
    let A = c.args in
    c.same.ensures ∙ ap (λ (bs : List ℕ). eqb (number A.entry.now) (number bs)) (part c.loop-i.i (length A.entry.now) A.list.now)

pub returns-then-same : goal.returns-then-same
returns-then-same c =
    let l = c.loop-i in
    behind_found c.args.entry.now c.args.list.now c.args.m c.requires.room l.i l.invariant c.loop-i-test.true
    (sym (looked (goal.at.returns-then-same c).After-same) ∙ c.if-same.true)

pub loop-i-preserved : goal.loop-i-preserved
loop-i-preserved c =
    let l = c.loop-i in
    behind_less c.args.entry.now c.args.list.now c.args.m c.requires.room l.i l.invariant c.loop-i-test.true
    (sym (looked (goal.at.loop-i-preserved c).After-same) ∙ c.if-same.false)

pub returns : goal.returns
returns c =
    let A = c.args in
    behind_end A.entry.now A.list.now A.m c.loop-i.i c.loop-i.invariant c.loop-i-test.false
