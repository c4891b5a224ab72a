-- `give_place` meets its contract: the kept place is written at the arrival, and zero at its uses.
-- Assumes nothing.
use mathlib.Core.Path.{◌≡◌, ap, ◌∙◌}
use mathlib.Core.List.{List}
use Prim.Native.Nat.{ℕ, ◌+◌, ◌*◌, ◌%◌}
use borrow.Rule.Slice.PartMut.{put_mid}
use Rattle.octets.specs.Octets.{bytes, lay}
use Rattle.doubles.proofs.Doubles.{pair-part}
use Rattle.state.specs.Layout.{uses_at, places_at}
use Rattle.keeping.specs.Keeping.{placed_state}
use Rattle.state.proofs.Sizes.{sizes}
use native.Mathlib.Omega.{arith}
use Rattle.keeping.proofs.give_place.Goals as goal

pub slice_bounds-give-end : goal.slice_bounds-give-end
slice_bounds-give-end c = omega (arith, sizes, c.requires.whole)

pub slice_bounds-no_uses-end : goal.slice_bounds-no_uses-end
slice_bounds-no_uses-end c = omega (arith, sizes, c.state-1.given, c.requires.whole)

pub returns : goal.returns
unfolding uses_at places_at placed_state
returns c =
    let g = c.give-place in
    let r = c.args.rank in
    let m = c.args.arrival.0 in
    let state : List ℕ = c.args.state.now in
    let after : List ℕ = put_mid 26240 1024 state g.new.places in
    let next : (r + 1) % 65536 ≡ r + 1 = omega (arith, sizes, c.requires.rank) in
    let given : after ≡ lay (26240 + 2 * m) (bytes 2 (r + 1)) state =
    pair-part 26240 1024 m ((r + 1) % 65536) state g.new.places (omega (arith, c.requires.arrival)) (omega (arith, sizes, c.requires.whole)) g.ensures.places
    ∙ ap (λ (x : ℕ). lay (26240 + 2 * m) (bytes 2 x) state) next in record {
      place = g.ensures.place;
      state = pair-part 25600 640 g.result.0 0 after c.no_uses.new.counts (omega (arith, sizes, g.ensures.place, c.requires.rank)) (omega (arith, sizes, c.state-1.given, c.requires.whole)) c.no_uses.ensures
          ∙ ap (λ (p : ℕ). lay (25600 + 2 * p) (bytes 2 0) after) g.ensures.place ∙ ap (lay (25600 + 2 * r) (bytes 2 0)) given;
    }
