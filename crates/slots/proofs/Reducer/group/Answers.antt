-- `group` meets its contract: the word has the digits that are left, and at each set one the pass stops or goes on behind it.
-- Assumes nothing.
use Rattle.std.proofs.Common.{rules}
use mathlib.Core.Path.{◌≡◌, refl, sym, ◌∙◌}
use mathlib.Core.Bool.{true}
use mathlib.Core.List.{List}
use Prim.Native.Nat.{ℕ, ◌+◌, ◌-◌, ◌*◌, ◌%◌, ◌^◌, ◌≤◌, ◌<◌}
use native.Mathlib.Nat.{mod-lt, lt_of_lt_of_le}
use native.Mathlib.Omega.{arith}
use lib.Bits.{bit_xor}
use lib.Pow.{pow_pos}
use lib.ListN.{length, take, drop}
use Rattle.space.specs.Lists.{Below}
use Rattle.octets.specs.Octets.{add_front}
use Rattle.octets.proofs.Runs.{known_below}
use Rattle.words.specs.Words.{word_at}
use Rattle.basis.specs.Algorithm2.{Pass, digit}
use Rattle.slots.proofs.Fits.{Fits, bytes_below, fits_so}
use Rattle.slots.proofs.Passing.{pass_from, passing-start}
use Rattle.slots.proofs.Grouping.{Grouping, grouping_start, grouping_end, turn_small, turn_lower, turn_past, turn_stop, turn_add, grouped_past, grouped_stop}
use Rattle.slots.proofs.Reducer.group.Goals as goal
use Rattle.slots.proofs.Reducer.group.Goals.{After-slot-slot, After-top-b, Start}

-- what the slots and the vector are known to fit
abbrev Fit : (c : Start) → Type 0
Fit c = Fits c.args.self.now.key (length c.args.work.now) (length c.args.self.now.slots.now)

fit : (c : Start) → Fit c
fit c = rw c.requires.wide (fits_so _ _ _ c.args.self.now.fits)

pub overflow_mul-end : goal.overflow_mul-end
overflow_mul-end c = omega (arith, fit (goal.at.overflow_mul-end c).Start)

pub loop-x-init : goal.loop-x-init
loop-x-init c =
    let W = length c.args.work.now in
    grouping_start c.args.self.now.key W c.args.self.now.slots.now _ c.args.g c.args.work.now c.word-x.result
    (passing-start c.args.self.now.key W c.args.self.now.slots.now c.args.work.now (8 * c.args.g) (omega (arith, c.requires.here)) refl
    (search (rules, known_below))) c.word-x.ensures

-- the digit found, and what is known of it
module _ (c : After-top-b) where
  abbrev W : ℕ
  W = length c.args.work.now

  abbrev ss : List ℕ
  ss = c.args.self.now.slots.now

  abbrev whole : Pass
  whole = pass_from c.args.self.now.key W ss c.args.work.now (8 * c.args.g)

  abbrev work : List ℕ
  work = c.loop-x.work

  abbrev x : ℕ
  x = c.loop-x.x

  abbrev slot_at : ℕ
  slot_at = 8 * c.args.g + 63 - c.top-b.result

  abbrev slot : List ℕ
  slot = take W (drop (slot_at * W) ss)

  known : Below 256 ss
  known = bytes_below ss c.args.self.now.bytes

  fitted : Fits c.args.self.now.key W (length ss)
  fitted = rw c.requires.wide (fits_so _ _ _ c.args.self.now.fits)

  small : c.top-b.result < 64
  small = turn_small c.args.self.now.key W ss fitted known whole c.args.g work x c.loop-x.invariant c.loop-x-test.true c.top-b.result c.top-b.ensures

  lower : 2 ^ c.top-b.result ≤ x
  lower = turn_lower c.args.self.now.key W ss fitted known whole c.args.g work x c.loop-x.invariant c.loop-x-test.true c.top-b.result c.top-b.ensures

  module _ (h : slot_at < 8 * c.args.self.now.key) where
    more : digit c.top-b.result (word_at c.args.g slot) ≡ true
        → Grouping c.args.self.now.key W ss whole c.args.g (add_front work slot) (bit_xor x (word_at c.args.g slot) % 2 ^ c.top-b.result)
    more = turn_add c.args.self.now.key W ss fitted known whole c.args.g work x c.loop-x.invariant c.loop-x-test.true c.top-b.result c.top-b.ensures h

pub overflow_mul-u : goal.overflow_mul-u
overflow_mul-u c = omega (arith, fit (goal.at.overflow_mul-u c).Start, c.requires.here)

pub overflow_add-u : goal.overflow_add-u
overflow_add-u c = omega (arith, fit (goal.at.overflow_add-u c).Start, c.requires.here)

pub overflow_sub-u : goal.overflow_sub-u
overflow_sub-u c = omega (arith, small c)

pub shape_of-work-then-end-u : goal.shape_of-work-then-end-u
shape_of-work-then-end-u c = c.loop-x.invariant.passing.long

pub returns-then-end-u : goal.returns-then-end-u
returns-then-end-u c =
    let k = (goal.at.returns-then-end-u c).After-top-b in
    grouped_past c.args.self.now.key (ss k) c.args.work.now (work k) c.args.g (8 * c.args.self.now.key) (fit (goal.at.returns-then-end-u c).Start).inside
    (turn_past c.args.self.now.key (W k) (ss k) (fit (goal.at.returns-then-end-u c).Start) (known k) (whole k) c.args.g (work k) (x k) c.loop-x.invariant c.loop-x-test.true c.top-b.result c.top-b.ensures c.if-end-u.true)
    (omega (arith, small k, c.if-end-u.true))

pub slot-slot-requires : goal.slot-slot-requires
slot-slot-requires c = c.if-end-u.false

-- what was lent is the slot
lent : (c : After-slot-slot) → c.slot-slot.result.now ≡ take (length c.args.work.now) (drop ((8 * c.args.g + 63 - c.top-b.result) * length c.args.work.now) c.args.self.now.slots.now)
lent c = c.slot-slot.ensures ∙ rw c.requires.wide

pub has-requires : goal.has-requires
has-requires c = small (goal.at.has-requires c).After-top-b

pub shape_of-work-then-not-has : goal.shape_of-work-then-not-has
shape_of-work-then-not-has c = c.loop-x.invariant.passing.long

pub returns-then-not-has : goal.returns-then-not-has
returns-then-not-has c =
    let k = (goal.at.returns-then-not-has c).After-top-b in
    let h = c.if-end-u.false in
    let tested : c.has.result ≡ digit c.top-b.result (word_at c.args.g (slot k)) = c.has.ensures ∙ rw (c.word-y.ensures, lent (goal.at.returns-then-not-has c).After-slot-slot) in
    grouped_stop c.args.self.now.key (ss k) c.args.work.now (work k) c.args.g (slot_at k) h (omega (arith, small k))
    (turn_stop c.args.self.now.key (W k) (ss k) (fit (goal.at.returns-then-not-has c).Start) (known k) (whole k) c.args.g (work k) (x k) c.loop-x.invariant c.loop-x-test.true c.top-b.result c.top-b.ensures h
    (sym tested ∙ c.if-not-has.true))

pub behind-x-requires : goal.behind-x-requires
behind-x-requires c = small (goal.at.behind-x-requires c).After-top-b

pub loop-x-smaller : goal.loop-x-smaller
loop-x-smaller c =
    rw c.behind-x.ensures (lt_of_lt_of_le (mod-lt _ (pow_pos c.top-b.result)) (lower (goal.at.loop-x-smaller c).After-top-b))

pub loop-x-preserved : goal.loop-x-preserved
loop-x-preserved c =
    let k = (goal.at.loop-x-preserved c).After-top-b in
    let h = c.if-end-u.false in
    let tested : c.has.result ≡ digit c.top-b.result (word_at c.args.g (slot k)) = c.has.ensures ∙ rw (c.word-y.ensures, lent (goal.at.loop-x-preserved c).After-slot-slot) in
    rw (c.behind-x.ensures, c.word-y.ensures, c.add.ensures, lent (goal.at.loop-x-preserved c).After-slot-slot) (more k h (sym tested ∙ c.if-not-has.false))

pub overflow_mul-g : goal.overflow_mul-g
overflow_mul-g c = omega (arith, fit (goal.at.overflow_mul-g c).Start, c.requires.here)

pub overflow_add-g : goal.overflow_add-g
overflow_add-g c = omega (arith, fit (goal.at.overflow_add-g c).Start, c.requires.here)

pub shape_of-work : goal.shape_of-work
shape_of-work c = c.loop-x.invariant.passing.long

pub returns : goal.returns
returns c =
    let l = c.loop-x in
    let W : ℕ = length c.args.work.now in
    grouped_past c.args.self.now.key c.args.self.now.slots.now c.args.work.now l.work c.args.g c.min.result (fit (goal.at.returns c).Start).inside
    (rw c.min.ensures (grouping_end c.args.self.now.key W c.args.self.now.slots.now (fit (goal.at.returns c).Start) (bytes_below c.args.self.now.slots.now c.args.self.now.bytes)
    (pass_from c.args.self.now.key W c.args.self.now.slots.now c.args.work.now (8 * c.args.g)) c.args.g l.work l.x l.invariant (omega arith))) c.min.ensures
