-- The kept places where nothing is given: of an arrival that is not taken, and of an empty order.
-- Assumes nothing.
use mathlib.Core.Path.{◌≡◌, refl, sym, ap, ◌∙◌}
use mathlib.Core.Bool.{Bool, true, false, ◌||◌, true≢false}
use mathlib.Core.List.{List, [], ◌∷◌}
use Prim.Native.Nat.{ℕ, zero, suc}
use lib.Dec.{eqb}
use lib.ListN.{length, get_or, set, replicate}
use lib.Seq.{set-get_or}
use Rattle.space.specs.Lists.{select, tabulate}
use Rattle.reading.specs.Reading.{kept, kept_after}
use Rattle.reading.specs.Orders.{among, taken}
use Rattle.reading.specs.Marks.{value_of, by_arrival, kept_arrivals, places_given}

-- ---- an arrival that is not taken

value_none : (a : ℕ) (ks : List Bool) (bs vs : List ℕ) → among bs a ≡ false → value_of 0 (select ks bs) vs a ≡ 0
unfolding among value_of select
value_none a [] bs vs h = refl
value_none a (k ∷ ks) [] vs h = refl
value_none a (k ∷ ks) (b ∷ bs) vs h = go k vs (eqb a b) refl h (value_none a ks bs)
  where
    go : (k : Bool) (vs : List ℕ) (c : Bool) → eqb a b ≡ c → (c || among bs a) ≡ false → ((vs : List ℕ) → among bs a ≡ false → value_of 0 (select ks bs) vs a ≡ 0)
        → value_of 0 (select (k ∷ ks) (b ∷ bs)) vs a ≡ 0
    go k vs true e h ih = absurd (true≢false h)
    go true [] false e h ih = refl
    go true (v ∷ vs) false e h ih = rw e (ih vs h)
    go false vs false e h ih = ih vs h

get_or_none : (m : ℕ) (f : ℕ → ℕ) (i : ℕ) → f i ≡ 0 → get_or (tabulate m f) i 0 ≡ 0
unfolding tabulate
get_or_none zero f i e = refl
get_or_none (suc m) f zero e = e
get_or_none (suc m) f (suc i) e = get_or_none m (λ k. f (suc k)) i e

-- to give it no kept place changes nothing
pub places_none : (l : ℕ) (entries order : List ℕ) (arrival : ℕ) → among order arrival ≡ false → set (places_given l entries order) arrival 0 ≡ places_given l entries order
places_none l entries order arrival h = ap (set (places_given l entries order) arrival) (sym nothing) ∙ set-get_or (places_given l entries order) arrival 0
  where
    nothing : get_or (places_given l entries order) arrival 0 ≡ 0
    nothing = unfold places_given by_arrival kept_arrivals in get_or_none (length entries) _ arrival (value_none arrival (kept (taken l entries order)) order _ h)

-- ---- the empty order

zeros : (n : ℕ) (f : ℕ → ℕ) → ((k : ℕ) → f k ≡ 0) → replicate n 0 ≡ tabulate n f
unfolding tabulate
zeros zero f e = refl
zeros (suc n) f e = rw (e 0) (ap (λ (t : List ℕ). 0 ∷ t) (zeros n (λ k. f (suc k)) (λ k. e (suc k))))

pub places-empty : (l : ℕ) (entries : List ℕ) → replicate (length entries) 0 ≡ places_given l entries []
unfolding places_given by_arrival kept_arrivals taken kept kept_after select
places-empty l entries = zeros (length entries) _ (λ k. unfold value_of in refl)
