-- What fits `eliminate`, and its outcome either way.
-- Assumes nothing.
use mathlib.Core.Path.{◌≡◌, refl}
use mathlib.Core.List.{List}
use mathlib.Core.Bool.{true, false, ◌&&◌}
use Prim.Native.Nat.{ℕ}
use lib.Dec.{leb}
use lib.ListN.{length}
use borrow.Author.Tests.{le-leb, leb-true}
use Rattle.std.specs.Prelude.{Some, None}
use Rattle.state.specs.Layout.{state_bytes, order_in}
use Rattle.state.specs.Written.{emptied}
use Rattle.echelon.specs.Eliminating.{Elimination, absorb_in, Eliminates, eliminates, elimination}
use Rattle.space.proofs.Both.{both}

pub eliminates_so : (l m room : ℕ) → eliminates l m room ≡ true → Eliminates l m room
unfolding eliminates
eliminates_so l m room e =
    let a : ((leb 1 l && leb l 32) ≡ true) × ((leb m 512 && leb state_bytes room) ≡ true) = both _ _ e in
    let b : (leb 1 l ≡ true) × (leb l 32 ≡ true) = both _ _ a.0 in
    let d : (leb m 512 ≡ true) × (leb state_bytes room ≡ true) = both _ _ a.1 in
    record { some = leb-true 1 l b.0; most = leb-true l 32 b.1; many = leb-true m 512 d.0; whole = leb-true state_bytes room d.1 }

pub eliminates_when : (l m room : ℕ) → Eliminates l m room → eliminates l m room ≡ true
unfolding eliminates
eliminates_when l m room E = rw (le-leb 1 l E.some) (rw (le-leb l 32 E.most) (rw (le-leb m 512 E.many) (le-leb state_bytes room E.whole)))

-- ---- the outcome

module _ (l : ℕ) (list : List ℕ) (taken : ℕ) (state : List ℕ) where
  abbrev pub whole : Elimination
  whole = absorb_in l list (order_in taken state) (record { state = emptied state; rank = 0 })

  pub eliminated_so : eliminates l taken (length state) ≡ true
      → (Some whole.rank ≡ (elimination l list taken state).answer) × (whole.state ≡ (elimination l list taken state).state)
  unfolding elimination
  eliminated_so e = rw e (refl, refl)

  pub eliminated_not : eliminates l taken (length state) ≡ false → (None ≡ (elimination l list taken state).answer) × (state ≡ (elimination l list taken state).state)
  unfolding elimination
  eliminated_not e = rw e (refl, refl)
