-- `both::read_both` meets its contract: the room is asked for where 3 stands, and the second reading follows a page.
-- Assumes nothing.
use mathlib.Core.Bool.{true}
use mathlib.Core.Path.{◌≡◌, refl, sym, ap, ◌∙◌}
use Prim.Native.Nat.{◌*◌, ◌≤◌}
use native.Mathlib.Nat.{mul-le-mul_right}
use native.Mathlib.Omega.{arith}
use lib.ListN.{length}
use lib.Seq.{length-take-le}
use Rattle.space.specs.Lists.{Below}
use Rattle.octets.proofs.Runs.{known_below}
use Rattle.rows.proofs.Shape.{shape_range}
use Rattle.reading.specs.declared.Answer.{Answer}
use Rattle.reading.specs.declared.Answer.TheVariants as answer
use Rattle.reading.specs.Outcome.{Lent, outcome}
use Rattle.reading.proofs.Checks.{passed}
use Rattle.reader.specs.Reader.{buffers, outcome_of}
use Rattle.reader.specs.Pairs.{counted, in_pairs}
use Rattle.both.specs.Both.{Second}
use Rattle.both.specs.Parts.{second, SecondEnding, second_ending}
use Rattle.both.proofs.Pairing.{no_page}
use Rattle.both.proofs.InPairs as pairs
use Rattle.both.proofs.read_both.Goals as goal
use Rattle.both.proofs.read_both.Goals.{After-fits_too, In-Page}

-- what is lent, before the room is asked for
module _ (c : After-fits_too) where
  abbrev lent : Lent
  lent = buffers c.args.page.now c.args.uses.now c.args.roles.now c.args.scratch.now

  abbrev lent₂ : Second
  lent₂ = second c.args.list2.now c.args.page2.now c.args.uses2.now c.args.roles2.now

  -- the uses are bytes
  low : Below 256 c.args.uses.now
  low = known_below c.args.uses.now c.type_inv.uses

  low₂ : Below 256 c.args.uses2.now
  low₂ = known_below c.args.uses2.now c.type_inv.uses2

  fitted : c.fits_too.result ≡ true → pairs.room c.args.n c.args.l c.args.list.now lent lent₂ ≡ true
  fitted e = sym c.fits_too.ensures ∙ e

pub returns-then-not-fits_too : goal.returns-then-not-fits_too
returns-then-not-fits_too c =
    let k = (goal.at.returns-then-not-fits_too c).After-fits_too in
    rw c.alone.ensures
    (pairs.pairs-refused c.args.n c.args.l c.args.list.now (lent k) (lent₂ k) (low k) (low₂ k) (sym c.fits_too.ensures ∙ c.if-not-fits_too.true))

-- ---- there was room, and the first list is read

-- no page
pub returns-in_default : goal.returns-in_default
returns-in_default c =
    let k = (goal.at.returns-in_default c).After-fits_too in
    let R = c.read_pairs-first in
    rw c.alone-in_default.ensures
    (pairs.pairs-alone c.args.n c.args.l c.args.list.now (lent k) (lent₂ k) (fitted k c.if-not-fits_too.false) R.result (buffers R.new.page R.new.uses R.new.roles R.new.scratch) R.ensures (low₂ k)
    (no_page R.result (λ r g. c.in_default.not-Page r g) (outcome c.args.n c.args.l c.args.list.now (counted (lent k))).lent))

-- ---- a page

module _ (c : In-Page) where
  abbrev first : Lent
  first = buffers c.args.page.now c.args.uses.now c.args.roles.now c.args.scratch.now

  abbrev left : Lent
  left =
      let R = c.read_pairs-first in
      buffers R.new.page R.new.uses R.new.roles R.new.scratch

  told : outcome_of (answer.Page c.in-Page.rank c.in-Page.agreement) left ≡ in_pairs c.args.n c.args.l c.args.list.now first
  told = ap (λ (a : Answer). outcome_of a left) (sym c.in-Page.is) ∙ c.read_pairs-first.ensures

  room : (s : Second) → pairs.room c.args.n c.args.l c.args.list.now first s ≡ true → c.args.n * c.args.l ≤ length left.page
  room s e = omega (arith, pairs.pairs-room c.args.n c.args.l c.args.list.now first s e _ _ left told, c.read_pairs-first.auto.page)

pub overflow_mul-size : goal.overflow_mul-size
overflow_mul-size c =
    let small : c.args.n ≤ 255 = omega arith in
    omega (arith, mul-le-mul_right c.args.l small)

pub slice_bounds-follow-end : goal.slice_bounds-follow-end
slice_bounds-follow-end c =
    let k = (goal.at.slice_bounds-follow-end c).After-fits_too in
    omega (arith, room (goal.at.slice_bounds-follow-end c).In-Page (lent₂ k) (fitted k c.if-not-fits_too.false))

pub slice_bounds-follow-end-2 : goal.slice_bounds-follow-end-2
slice_bounds-follow-end-2 c =
    let k = (goal.at.slice_bounds-follow-end-2 c).After-fits_too in
    let p = (goal.at.slice_bounds-follow-end-2 c).In-Page in
    sym (length-take-le _ (left p).page (omega (arith, room p (lent₂ k) (fitted k c.if-not-fits_too.false))))

pub follow-requires : goal.follow-requires
follow-requires c =
    let k = (goal.at.follow-requires c).After-fits_too in
    let p = (goal.at.follow-requires c).In-Page in
    pairs.pairs-passing c.args.n c.args.l c.args.list.now (lent k) (lent₂ k) (fitted k c.if-not-fits_too.false) _ _ (left p) (told p) (left p).scratch c.read_pairs-first.auto.scratch

pub returns : goal.returns
returns c =
    let k = (goal.at.returns c).After-fits_too in
    let p = (goal.at.returns c).In-Page in
    let F = c.follow in
    let fits = fitted k c.if-not-fits_too.false in
    let e : SecondEnding = second_ending F.result (second F.new.list2 F.new.page2 F.new.uses2 F.new.roles2) F.new.scratch in
    let passes = pairs.pairs-passes c.args.n c.args.l c.args.list.now (lent k) (lent₂ k) fits _ _ (left p) (told p) in
    let low = (shape_range c.args.n c.args.l (passed c.args.n c.args.l c.args.list.now (counted (lent k)) passes).shaped).l_low in
    pairs.pairs-followed c.args.n c.args.l c.args.list.now (lent k) (lent₂ k) fits c.in-Page.rank c.in-Page.agreement (left p) (told p) low _ refl _ c.in-Page.is e F.ensures
