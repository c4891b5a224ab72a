-- What keeping a row does to what a state tells: one slot is set, one kept place more has no uses, and its arrival is given it. The order stays, and
-- all behind it. Four parts are laid, each apart from what else is told. Assumes nothing.
use mathlib.Core.Path.{◌≡◌, ap, ◌∙◌}
use mathlib.Core.Bool.{true, ◌&&◌}
use mathlib.Core.List.{List, [], ◌∷◌, ◌++◌}
use Prim.Native.Nat.{ℕ, suc, ◌+◌, ◌*◌, ◌^◌, ◌≤◌, ◌<◌}
use native.Mathlib.Omega.{arith}
use lib.Dec.{eqb, leb, ltb, lit<}
use lib.ListN.{length, drop, set}
use borrow.Author.Tests.{leb-true, ltb-true, eqb-true}
use Rattle.space.specs.Space.{◌⊕◌}
use Rattle.space.proofs.Both.{both}
use Rattle.octets.specs.Octets.{number, bytes, lay}
use Rattle.octets.proofs.Numbers.{length-bytes}
use Rattle.octets.proofs.Lay.{length-lay, drop-after}
use Rattle.tally.specs.Tally.{most_kept}
use Rattle.state.specs.Layout.{vector_bytes, uses_at, places_at, heads_at, order_at, state_bytes, slots_in, uses_in, places_in}
use Rattle.keeping.specs.Keeping.{head_at, head_of, placed_state, KeepRoom, row_kept, keeps, kept_state}
use Rattle.slotting.proofs.Fits.{length-head_of}
use Rattle.state.proofs.Sizes.{sizes, slot_end}
use Rattle.keeping.proofs.Heads.{head_end}
use Rattle.keeping.proofs.Fits.{kept_is}
use Rattle.views.proofs.Laid.{unless, slots_stay, pairs-before, pairs-behind, pairs_set, set_last, slot-set}

module _ (t : ℕ) (vector : List ℕ) (m r : ℕ) (state : List ℕ) (K : KeepRoom t m r (length vector) (length state)) where
  abbrev given : List ℕ
  given = lay (places_at + 2 * m) (bytes 2 (r + 1)) state

  given-room : places_at + 2 * m + length (bytes 2 (r + 1)) ≤ heads_at
  given-room = omega (arith, length-bytes 2 (r + 1), sizes, K.arrival)

  given-fits : places_at + 2 * m + length (bytes 2 (r + 1)) ≤ length state
  given-fits = omega (arith, given-room, sizes, K.whole)

  given-long : length given ≡ length state
  given-long = length-lay (places_at + 2 * m) (bytes 2 (r + 1)) state given-fits

  abbrev unused : List ℕ
  unused = lay (uses_at + 2 * r) (bytes 2 0) given

  unused_below : uses_at + 2 * r + length (bytes 2 0) ≤ places_at
  unused_below = omega (arith, sizes, length-bytes 2 0, K.rank)

  unused-fits : uses_at + 2 * r + length (bytes 2 0) ≤ length given
  unused-fits = omega (arith, unused_below, sizes, given-long, K.whole)

  unused-long : length unused ≡ length state
  unused-long = length-lay (uses_at + 2 * r) (bytes 2 0) given unused-fits ∙ given-long

  abbrev headed : List ℕ
  headed = lay (head_at t) (head_of t vector) unused

  -- a head lies behind all that is told, and before the order
  head-room : (heads_at ≤ head_at t) × (head_at t + length (head_of t vector) ≤ order_at)
  head-room = ((head_end t K.slot).0, omega (arith, length-head_of t vector, (head_end t K.slot).1))

  headed-fits : head_at t + length (head_of t vector) ≤ length unused
  headed-fits = omega (arith, head-room.1, sizes, unused-long, K.whole)

  headed-long : length headed ≡ length state
  headed-long = length-lay (head_at t) (head_of t vector) unused headed-fits ∙ unused-long

  abbrev x : ℕ
  x = number vector ⊕ 2 ^ r

  slot_below : t * vector_bytes + length (bytes vector_bytes x) ≤ uses_at
  slot_below = omega (arith, length-bytes vector_bytes x, slot_end t K.slot)

  slot-fits : t * vector_bytes + length (bytes vector_bytes x) ≤ length headed
  slot-fits = omega (arith, slot_below, sizes, headed-long, K.whole)

  -- ---- what the state tells

  pub kept-slots : (key : ℕ) → key ≤ 40 → t < 8 * key → x < 2 ^ (8 * vector_bytes) → slots_in key (kept_state t vector m r state) ≡ set (slots_in key state) t x
  unfolding row_kept placed_state
  kept-slots key h l small =
      rw (kept_is t vector m r state K) (slot-set key t x headed h l (omega (arith, headed-long, K.whole)) small
      ∙ ap (λ (ss : List ℕ). set ss t x) (slots_stay (head_at t) (head_of t vector) unused headed-fits key h (omega (arith, head-room.0, sizes))
      ∙ slots_stay (uses_at + 2 * r) (bytes 2 0) given unused-fits key h (omega arith)
      ∙ slots_stay (places_at + 2 * m) (bytes 2 (r + 1)) state given-fits key h (omega (arith, sizes))))

  pub kept-uses : uses_in (suc r) (kept_state t vector m r state) ≡ uses_in r state ++ (0 ∷ [])
  unfolding row_kept placed_state uses_in
  kept-uses =
      rw (kept_is t vector m r state K) (pairs-behind (t * vector_bytes) (bytes vector_bytes x) headed slot-fits uses_at (suc r) slot_below
      ∙ pairs-before (head_at t) (head_of t vector) unused headed-fits uses_at (suc r) (omega (arith, head-room.0, sizes, K.rank))
      ∙ pairs_set uses_at (suc r) r 0 given (lit< tt) (omega arith) (omega (arith, given-long, sizes, K.rank, K.whole)) ∙ set_last r 0 _
      ∙ ap (λ (us : List ℕ). us ++ (0 ∷ [])) (pairs-before (places_at + 2 * m) (bytes 2 (r + 1)) state given-fits uses_at r (omega (arith, sizes, K.rank))))

  pub kept-places : (n : ℕ) → m < n → n ≤ 512 → places_in n (kept_state t vector m r state) ≡ set (places_in n state) m (r + 1)
  unfolding row_kept placed_state places_in
  kept-places n l h =
      rw (kept_is t vector m r state K) (pairs-behind (t * vector_bytes) (bytes vector_bytes x) headed slot-fits places_at n (omega (arith, slot_below, sizes))
      ∙ pairs-before (head_at t) (head_of t vector) unused headed-fits places_at n (omega (arith, head-room.0, sizes))
      ∙ pairs-behind (uses_at + 2 * r) (bytes 2 0) given unused-fits places_at n unused_below
      ∙ pairs_set places_at n m (r + 1) state (omega (arith, K.rank, sizes)) l (omega (arith, sizes, K.whole)))

  row-long : length (row_kept t vector m r state) ≡ length state
  unfolding row_kept placed_state
  row-long = length-lay (t * vector_bytes) (bytes vector_bytes x) headed slot-fits ∙ headed-long

  row-behind : drop order_at (row_kept t vector m r state) ≡ drop order_at state
  unfolding row_kept placed_state
  row-behind =
      drop-after order_at (t * vector_bytes) (bytes vector_bytes x) headed (omega (arith, slot_below, sizes)) (omega (arith, slot-fits))
      ∙ drop-after order_at (head_at t) (head_of t vector) unused head-room.1 (omega (arith, headed-fits))
      ∙ drop-after order_at (uses_at + 2 * r) (bytes 2 0) given (omega (arith, unused_below, sizes)) (omega (arith, unused-fits))
      ∙ drop-after order_at (places_at + 2 * m) (bytes 2 (r + 1)) state (omega (arith, given-room, sizes)) (omega (arith, given-fits))

-- ---- whether or not it fits

module _ (t : ℕ) (vector : List ℕ) (m r : ℕ) (state : List ℕ) where
  keeps_so : keeps t m r (length vector) (length state) ≡ true → KeepRoom t m r (length vector) (length state)
  unfolding keeps
  keeps_so e =
      let a : (ltb t most_kept ≡ true) × ((ltb m 512 && (ltb r most_kept && (eqb (length vector) vector_bytes && leb state_bytes (length state)))) ≡ true) = both _ _ e in
      let b : (ltb m 512 ≡ true) × ((ltb r most_kept && (eqb (length vector) vector_bytes && leb state_bytes (length state))) ≡ true) = both _ _ a.1 in
      let d : (ltb r most_kept ≡ true) × ((eqb (length vector) vector_bytes && leb state_bytes (length state)) ≡ true) = both _ _ b.1 in
      let f : (eqb (length vector) vector_bytes ≡ true) × (leb state_bytes (length state) ≡ true) = both _ _ d.1 in
      record {
        slot = ltb-true t most_kept a.0;
        arrival = ltb-true m 512 b.0;
        rank = ltb-true r most_kept d.0;
        wide = eqb-true (length vector) vector_bytes f.0;
        whole = leb-true state_bytes (length state) f.1;
      }

  pub kept-length : length (kept_state t vector m r state) ≡ length state
  unfolding kept_state
  kept-length = unless length (keeps t m r (length vector) (length state)) (row_kept t vector m r state) state (λ e. row-long t vector m r state (keeps_so e))

  -- the order and all bytes behind it stay
  pub kept-behind : drop order_at (kept_state t vector m r state) ≡ drop order_at state
  unfolding kept_state
  kept-behind = unless (drop order_at) (keeps t m r (length vector) (length state)) (row_kept t vector m r state) state (λ e. row-behind t vector m r state (keeps_so e))
