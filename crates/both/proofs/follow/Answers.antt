-- `both::follow` meets its contract: the entries gathered are a list that passes, and it is read.
-- Assumes nothing.
use mathlib.Core.Path.{◌≡◌, sym, ap, ◌∙◌}
use Prim.Native.Nat.{ℕ, ◌*◌, ◌≤◌}
use lib.ListN.{length, take}
use lib.Seq.{length-take-le}
use Rattle.octets.proofs.Runs.{known_below}
use Rattle.rows.specs.Rows.{list_row_bytes, entries_of}
use Rattle.rows.specs.Bytes.{cut}
use Rattle.rows.proofs.Shape.{shape_range}
use Rattle.reading.specs.Outcome.{Lent}
use Rattle.reading.proofs.Checks.{Passed, passed, rows-most}
use Rattle.reader.specs.Pairs.{in_pairs}
use Rattle.apart.specs.Apart.{apart, gathers, gathered}
use Rattle.apart.proofs.Fitting.{gathers-all}
use Rattle.both.specs.Both.{Second, lent_too}
use Rattle.both.specs.Pairs.{counted_too}
use Rattle.both.specs.Parts.{second}
use Rattle.both.proofs.Following.{within, follow_ends}
use native.Mathlib.Omega.{arith}
use Rattle.both.proofs.follow.Goals as goal
use Rattle.both.proofs.follow.Goals.{After-gather-rows}

-- what is lent for the second reading, where all rows that do not agree are gathered
module _ (c : After-gather-rows) where
  abbrev own : Second
  own = second c.args.list2.now c.args.page2.now c.args.uses2.now c.args.roles2.now

  abbrev lent : Lent
  lent = lent_too c.args.scratch.now (counted_too own)

  all : gathers c.gather-rows.result c.gather-rows.new.into
      ≡ gathered c.args.l (apart c.args.l (cut c.args.l c.args.page.now) (entries_of c.args.l c.args.list.now)) c.args.list2.now
  all =
      let P : Passed c.args.n c.args.l c.args.list.now lent = passed c.args.n c.args.l c.args.list.now lent c.requires.passing in
      let range = shape_range c.args.n c.args.l P.shaped in
      c.gather-rows.ensures ∙ gathers-all c.args.l c.args.list.now c.args.page.now c.args.list2.now range.l_low range.l_high (rows-most c.args.n c.args.l c.args.list.now lent P) c.requires.list_room

  -- and they are in the list
  room : (stride : ℕ) → stride ≡ list_row_bytes c.args.l → c.gather-rows.result * stride ≤ length c.args.list2.now
  room stride is =
      let G = c.gather-rows in
      rw is
      (within c.args.n c.args.l c.args.list.now own c.args.scratch.now c.requires
      (known_below c.args.list.now c.type_inv.list) (cut c.args.l c.args.page.now) G.result G.new.into all)

pub overflow_mul-end : goal.overflow_mul-end
overflow_mul-end c = omega (arith, room (goal.at.overflow_mul-end c).After-gather-rows c.stride.result c.stride.ensures, c.well_formed)

pub slice_bounds-read_pairs-end : goal.slice_bounds-read_pairs-end
slice_bounds-read_pairs-end c = omega (arith, room (goal.at.slice_bounds-read_pairs-end c).After-gather-rows c.stride.result c.stride.ensures, c.gather-rows.auto.into)

pub slice_bounds-read_pairs-end-2 : goal.slice_bounds-read_pairs-end-2
slice_bounds-read_pairs-end-2 c =
    sym (length-take-le _ c.gather-rows.new.into (omega (arith, room (goal.at.slice_bounds-read_pairs-end-2 c).After-gather-rows c.stride.result c.stride.ensures, c.gather-rows.auto.into)))

pub returns : goal.returns
returns c =
    let k = (goal.at.returns c).After-gather-rows in
    let R = c.read_pairs-second in
    let G = c.gather-rows in
    follow_ends c.args.n c.args.l c.args.list.now (own k) c.args.scratch.now c.requires
    (known_below c.args.list.now c.type_inv.list) (cut c.args.l c.args.page.now) G.result G.new.into (all k)
    c.args.first R.result R.new.page R.new.uses R.new.roles R.new.scratch
    (R.ensures ∙ ap (λ (b : ℕ). in_pairs c.args.n c.args.l (take (G.result * b) G.new.into) (lent_too c.args.scratch.now (own k))) c.stride.ensures)
