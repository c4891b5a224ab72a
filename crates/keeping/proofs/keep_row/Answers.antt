-- `keep_row` meets its contract: the kept place is given, then the head and the vector are laid.
-- Assumes nothing.
use mathlib.Core.Path.{ap, ◌∙◌}
use Prim.Native.Nat.{ℕ, ◌*◌, ◌^◌}
use Rattle.space.specs.Space.{◌⊕◌}
use Rattle.octets.specs.Octets.{number, bytes, lay}
use Rattle.state.specs.Layout.{vector_bytes}
use Rattle.keeping.specs.Keeping.{head_at, head_of, row_kept}
use native.Mathlib.Omega.{arith}
use Rattle.keeping.proofs.keep_row.Goals as goal

pub give_place-place-requires : goal.give_place-place-requires
give_place-place-requires c =
    let K = c.requires in
    record { arrival = K.arrival; rank = K.rank; whole = K.whole }

pub put_head-requires : goal.put_head-requires
put_head-requires c = record { slot = c.requires.slot; whole = omega (arith, c.give_place-place.auto.state, c.requires.whole) }

pub put_vector-requires : goal.put_vector-requires
put_vector-requires c =
    let K = c.requires in
    record { slot = K.slot; place = rw c.give_place-place.ensures.place K.rank; wide = K.wide; whole = omega (arith, c.put_head.auto.state, c.give_place-place.auto.state, K.whole) }

pub returns : goal.returns
unfolding row_kept
returns c =
    let g = c.give_place-place in
    c.put_vector.ensures
    ∙ ap (λ (p : ℕ). lay (c.args.t * vector_bytes) (bytes vector_bytes (number c.args.vector.now ⊕ 2 ^ p)) c.put_head.new.state) g.ensures.place
    ∙ ap (lay (c.args.t * vector_bytes) (bytes vector_bytes (number c.args.vector.now ⊕ 2 ^ c.args.rank)))
    (c.put_head.ensures ∙ ap (lay (head_at c.args.t) (head_of c.args.t c.args.vector.now)) g.ensures.state)
