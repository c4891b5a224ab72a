-- `walk_on` meets its contract: the vector's bytes are what `group` has in memory, and a head that is followed is its slot's word.
-- Assumes nothing.
use mathlib.Core.Path.{◌≡◌, sym, ap, ◌∙◌}
use mathlib.Core.Bool.{true, false}
use mathlib.Core.List.{List}
use Prim.Native.Nat.{ℕ, ◌+◌, ◌-◌, ◌*◌, ◌%◌, ◌^◌, ◌≤◌, ◌<◌}
use native.Mathlib.Nat.{mod-lt, lt_of_lt_of_le}
use native.Mathlib.Omega.{arith}
use lib.Bits.{bit_xor}
use lib.Pow.{pow_pos}
use lib.ListN.{length, take, drop}
use Rattle.space.specs.Lists.{Below}
use Rattle.octets.specs.Octets.{add_front}
use Rattle.octets.proofs.Runs.{below_parts}
use Rattle.octets.proofs.Xors.{add_front-whole}
use Rattle.words.specs.Words.{word_at}
use Rattle.vectors.specs.Vectors.{vector_of, bytes_of, plus_of}
use Rattle.vectors.proofs.Vectors.{length-bytes_of, bytes_of_below, bytes_of_load, bytes_of-plus}
use Rattle.basis.specs.Algorithm2.{Pass, digit}
use Rattle.slots.specs.Reducing.{Walked}
use Rattle.slots.proofs.Fits.{Fits, bytes_below, fits_so}
use Rattle.slots.proofs.Passing.{pass_from, passing-start}
use Rattle.slots.proofs.Grouping.{Grouping, grouping_start, grouping_end, turn_small, turn_lower, turn_top, turn_past, turn_wide, turn_stop, turn_add, grouped_past, grouped_stop}
use Rattle.slots.proofs.Reducer.walk_on.Goals as goal
use Rattle.slots.proofs.Reducer.walk_on.Goals.{After-slot-slot, After-top-b, Start}

fit : (c : Start) → Fits c.args.self.now.key 80 (length c.args.self.now.slots.now)
fit c = rw c.requires.wide at (fits_so _ _ _ c.args.self.now.fits)

-- where it ends, in the contract's words: the vector that it starts from has 80 bytes
module _ (c : Start) where
  abbrev before : List ℕ
  before = bytes_of c.args.from

  long : length before ≡ 80
  long = length-bytes_of c.args.from

pub overflow_mul-end : goal.overflow_mul-end
overflow_mul-end c = omega (arith, fit (goal.at.overflow_mul-end c).Start)

pub loop-x-init : goal.loop-x-init
loop-x-init c =
    let k = (goal.at.loop-x-init c).Start in
    grouping_start c.args.self.now.key 80 c.args.self.now.slots.now _ c.args.g (before k) c.args.digits
    (passing-start c.args.self.now.key 80 c.args.self.now.slots.now (before k) (8 * c.args.g) (omega (arith, c.requires.here)) (long k) (bytes_of_below c.args.from)) c.requires.word

-- the digit found, and what is known of it
module _ (c : After-top-b) where
  abbrev ss : List ℕ
  ss = c.args.self.now.slots.now

  abbrev whole : Pass
  whole = pass_from c.args.self.now.key 80 ss (bytes_of c.args.from) (8 * c.args.g)

  abbrev work : List ℕ
  work = bytes_of c.loop-x.v

  abbrev x : ℕ
  x = c.loop-x.x

  abbrev slot_at : ℕ
  slot_at = 8 * c.args.g + 63 - c.top-b.result

  abbrev slot : List ℕ
  slot = take 80 (drop (slot_at * 80) ss)

  known : Below 256 ss
  known = bytes_below ss c.args.self.now.bytes

  fitted : Fits c.args.self.now.key 80 (length ss)
  fitted = rw c.requires.wide at (fits_so _ _ _ c.args.self.now.fits)

  small : c.top-b.result < 64
  small = turn_small c.args.self.now.key 80 ss fitted known whole c.args.g work x c.loop-x.invariant c.loop-x-test.true c.top-b.result c.top-b.ensures

  lower : 2 ^ c.top-b.result ≤ x
  lower = turn_lower c.args.self.now.key 80 ss fitted known whole c.args.g work x c.loop-x.invariant c.loop-x-test.true c.top-b.result c.top-b.ensures

  module _ (h : slot_at < 8 * c.args.self.now.key) where
    -- added in registers as in memory
    added : bytes_of (plus_of c.loop-x.v (vector_of slot)) ≡ add_front work slot
    added =
        let wide : length slot ≡ 80 =
        turn_wide c.args.self.now.key 80 ss fitted known whole c.args.g work x c.loop-x.invariant c.loop-x-test.true c.top-b.result c.top-b.ensures h in
        bytes_of-plus c.loop-x.v (vector_of slot)
        ∙ rw (bytes_of_load slot wide (below_parts 256 80 (drop (slot_at * 80) ss) (below_parts 256 (slot_at * 80) ss known).1).0)
        (sym (add_front-whole work slot (length-bytes_of c.loop-x.v ∙ sym wide)))

    more : digit c.top-b.result (word_at c.args.g slot) ≡ true
        → Grouping c.args.self.now.key 80 ss whole c.args.g (add_front work slot) (bit_xor x (word_at c.args.g slot) % 2 ^ c.top-b.result)
    more = turn_add c.args.self.now.key 80 ss fitted known whole c.args.g work x c.loop-x.invariant c.loop-x-test.true c.top-b.result c.top-b.ensures h

pub overflow_mul-u : goal.overflow_mul-u
overflow_mul-u c = omega (arith, fit (goal.at.overflow_mul-u c).Start, c.requires.here)

pub overflow_add-u : goal.overflow_add-u
overflow_add-u c = omega (arith, fit (goal.at.overflow_add-u c).Start, c.requires.here)

pub overflow_sub-u : goal.overflow_sub-u
overflow_sub-u c = omega (arith, small c)

pub returns-then-end-u : goal.returns-then-end-u
unfolding Walked
returns-then-end-u c =
    let k2 = (goal.at.returns-then-end-u c).Start in
    let k = (goal.at.returns-then-end-u c).After-top-b in
    grouped_past c.args.self.now.key (ss k) (before k2) (work k) c.args.g (8 * c.args.self.now.key) (omega (arith, (fit k2).inside, long k2))
    (rw (long k2) (turn_past c.args.self.now.key 80 (ss k) (fit k2) (known k) (whole k) c.args.g (work k) (x k) c.loop-x.invariant c.loop-x-test.true c.top-b.result c.top-b.ensures c.if-end-u.true))
    (omega (arith, small k, c.if-end-u.true))

pub head_of-y-requires : goal.head_of-y-requires
head_of-y-requires c = small (goal.at.head_of-y-requires c).After-top-b

pub slot-slot-requires : goal.slot-slot-requires
slot-slot-requires c = c.if-end-u.false

-- what was lent is the slot
lent : (c : After-slot-slot) → c.slot-slot.result.now ≡ take 80 (drop ((8 * c.args.g + 63 - c.top-b.result) * 80) c.args.self.now.slots.now)
lent c = rw c.requires.wide at c.slot-slot.ensures

pub returns-then-y-word : goal.returns-then-y-word
unfolding Walked
returns-then-y-word c = tt

pub overflow_shr-y : goal.overflow_shr-y
overflow_shr-y c = small (goal.at.overflow_shr-y c).After-top-b

pub has-requires : goal.has-requires
has-requires c = small (goal.at.has-requires c).After-top-b

pub returns-then-has : goal.returns-then-has
unfolding Walked
returns-then-has c = tt

pub returns-else-has : goal.returns-else-has
unfolding Walked
returns-else-has c =
    let k2 = (goal.at.returns-else-has c).Start in
    let k = (goal.at.returns-else-has c).After-top-b in
    let h = c.if-end-u.false in
    -- a head that is followed is the slot's word
    let is : c.head_of-y.result ≡ word_at c.args.g (slot k) = c.if-y-word.false ∙ c.word.ensures ∙ rw (lent (goal.at.returns-else-has c).After-slot-slot) in
    let none : digit c.top-b.result (word_at c.args.g (slot k)) ≡ false =
    ap (digit c.top-b.result) (sym is) ∙ sym c.has.ensures ∙ c.if-has.false in
    grouped_stop c.args.self.now.key (ss k) (before k2) (work k) c.args.g (slot_at k) h (omega (arith, small k))
    (rw (long k2) (turn_stop c.args.self.now.key 80 (ss k) (fit k2) (known k) (whole k) c.args.g (work k) (x k) c.loop-x.invariant c.loop-x-test.true c.top-b.result c.top-b.ensures h none))

pub loop-x-smaller : goal.loop-x-smaller
loop-x-smaller c =
    let k = (goal.at.loop-x-smaller c).After-top-b in
    -- the slot has no digit before this one, so the sum has those behind it
    let T : (digit c.top-b.result c.head_of-y.result ≡ true) × (bit_xor (x k) c.head_of-y.result % 2 ^ c.top-b.result ≡ bit_xor (x k) c.head_of-y.result) =
    turn_top c.args.self.now.key 80 (ss k) (fitted k) (known k) (whole k) c.args.g (work k) (x k) c.loop-x.invariant c.loop-x-test.true c.top-b.result c.top-b.ensures c.head_of-y.result c.if-y-b-ne1.false in
    lt_of_lt_of_le (rw T.1 at (mod-lt (bit_xor (x k) c.head_of-y.result) (pow_pos c.top-b.result))) (lower k)

pub loop-x-preserved : goal.loop-x-preserved
loop-x-preserved c =
    let k = (goal.at.loop-x-preserved c).After-top-b in
    let h = c.if-end-u.false in
    -- the slot has no digit before this one, so the sum has those behind it
    let T : (digit c.top-b.result c.head_of-y.result ≡ true) × (bit_xor (x k) c.head_of-y.result % 2 ^ c.top-b.result ≡ bit_xor (x k) c.head_of-y.result) =
    turn_top c.args.self.now.key 80 (ss k) (fitted k) (known k) (whole k) c.args.g (work k) (x k) c.loop-x.invariant c.loop-x-test.true c.top-b.result c.top-b.ensures c.head_of-y.result c.if-y-b-ne1.false in
    let is : c.head_of-y.result ≡ word_at c.args.g (slot k) = c.if-y-word.false ∙ c.word.ensures ∙ rw (lent (goal.at.loop-x-preserved c).After-slot-slot) in
    rw (sym T.1, is, c.plus-v.ensures, c.load.ensures) (rw (lent (goal.at.loop-x-preserved c).After-slot-slot, added k h) (more k h (rw is at T.0)))

pub overflow_mul-g : goal.overflow_mul-g
overflow_mul-g c = omega (arith, fit (goal.at.overflow_mul-g c).Start, c.requires.here)

pub overflow_add-g : goal.overflow_add-g
overflow_add-g c = omega (arith, fit (goal.at.overflow_add-g c).Start, c.requires.here)

pub returns : goal.returns
unfolding Walked
returns c =
    let k = (goal.at.returns c).Start in
    let l = c.loop-x in
    grouped_past c.args.self.now.key c.args.self.now.slots.now (before k) (bytes_of l.v) c.args.g c.min.result (omega (arith, (fit k).inside, long k))
    (rw (c.min.ensures, long k) (grouping_end c.args.self.now.key 80 c.args.self.now.slots.now (fit k) (bytes_below c.args.self.now.slots.now c.args.self.now.bytes)
    (pass_from c.args.self.now.key 80 c.args.self.now.slots.now (before k) (8 * c.args.g)) c.args.g (bytes_of l.v) l.x l.invariant (omega arith))) c.min.ensures
