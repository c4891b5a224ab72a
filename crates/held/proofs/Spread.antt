-- Values by arrival are values by kept place, spread over the arrivals; and what stands at one place of them.
-- Assumes nothing.
use mathlib.Core.Path.{◌≡◌, refl, sym, ap, ap₂, ◌∙◌}
use Prim.Native.Nat.{ℕ, zero, suc}
use native.Mathlib.Omega.{arith}
use mathlib.Core.Bool.{Bool, true, false}
use mathlib.Core.List.{List, [], ◌∷◌, ◌++◌}
use lib.ListN.{length}
use borrow.Author.Tests.{eq-eqb, ne_eqb}
use Rattle.space.specs.Lists.{select, tabulate}
use Rattle.space.proofs.Lists.{tabulate_ext}
use Rattle.reading.specs.Reading.{kept, uses}
use Rattle.reading.specs.Orders.{arrivals}
use Rattle.reading.specs.Marks.{value_of, by_arrival}
use Rattle.reading.proofs.Kept.{length-kept}
use Rattle.held.specs.Listed.{spread, listed_uses}
use Rattle.held.specs.Held.{inserted}

-- ---- values by arrival, spread over the arrivals

-- one that does not stand there has no value
no_value : (d x : ℕ) (f : ℕ → ℕ) → ((k : ℕ) → x ≡ f k → ⊥) → (ks : List Bool) (m : ℕ) (vs : List ℕ) → value_of d (select ks (tabulate m f)) vs x ≡ d
unfolding value_of select tabulate
no_value d x f h [] m vs = refl
no_value d x f h (k ∷ ks) zero vs = refl
no_value d x f h (true ∷ ks) (suc m) [] = refl
no_value d x f h (true ∷ ks) (suc m) (v ∷ vs) = rw (ne_eqb x (f 0) (h 0)) (no_value d x (λ k. f (suc k)) (λ k. h (suc k)) ks m vs)
no_value d x f h (false ∷ ks) (suc m) vs = no_value d x (λ k. f (suc k)) (λ k. h (suc k)) ks m vs

valueless : (d : ℕ) (bs : List ℕ) (x : ℕ) → value_of d bs [] x ≡ d
unfolding value_of
valueless d [] x = refl
valueless d (b ∷ bs) x = refl

spread_of : (d : ℕ) (f : ℕ → ℕ) → ((i j : ℕ) → f i ≡ f j → i ≡ j) → (ks : List Bool) (vs : List ℕ)
    → tabulate (length ks) (λ k. value_of d (select ks (tabulate (length ks) f)) vs (f k)) ≡ spread d ks vs
unfolding value_of select tabulate spread
spread_of d f inj [] vs = refl
spread_of d f inj (false ∷ ks) vs =
    ap₂ (λ v t. v ∷ t) (no_value d (f 0) (λ k. f (suc k)) (λ k e. omega (arith, inj 0 (suc k) e)) ks (length ks) vs)
    (spread_of d (λ k. f (suc k)) (λ i j e. omega (arith, inj (suc i) (suc j) e)) ks vs)
spread_of d f inj (true ∷ ks) [] =
    ap (λ t. d ∷ t) (tabulate_ext (length ks) _ _ (λ k h. sym (valueless d (select ks (tabulate (length ks) (λ k. f (suc k)))) (f (suc k))))
    ∙ spread_of d (λ k. f (suc k)) (λ i j e. omega (arith, inj (suc i) (suc j) e)) ks [])
spread_of d f inj (true ∷ ks) (v ∷ vs) =
    ap₂ (λ v t. v ∷ t) (rw (eq-eqb (f 0) (f 0) refl))
    (tabulate_ext (length ks) _ _ (λ k h. rw (ne_eqb (f (suc k)) (f 0) (λ e. omega (arith, inj (suc k) 0 e))))
    ∙ spread_of d (λ k. f (suc k)) (λ i j e. omega (arith, inj (suc i) (suc j) e)) ks vs)

pub spread-arrivals : (d : ℕ) (ks : List Bool) (vs : List ℕ) → by_arrival d (length ks) (select ks (arrivals (length ks))) vs ≡ spread d ks vs
unfolding by_arrival arrivals
spread-arrivals d ks vs = spread_of d (λ a. a) (λ i j e. e) ks vs

-- ---- how many there are

pub length-spread : (d : ℕ) (ks : List Bool) (vs : List ℕ) → length (spread d ks vs) ≡ length ks
unfolding spread
length-spread d [] vs = refl
length-spread d (false ∷ ks) vs = ap suc (length-spread d ks vs)
length-spread d (true ∷ ks) [] = ap suc (length-spread d ks [])
length-spread d (true ∷ ks) (v ∷ vs) = ap suc (length-spread d ks vs)

pub listed-rows : (rows : List ℕ) → length (listed_uses rows) ≡ length rows
unfolding listed_uses
listed-rows rows = length-spread 65535 (kept rows) (uses rows) ∙ length-kept rows

-- ---- one more that is not kept

pub spread-inserted : (d : ℕ) (bs cs : List Bool) (vs : List ℕ) → spread d (bs ++ false ∷ cs) vs ≡ inserted (length bs) d (spread d (bs ++ cs) vs)
unfolding spread inserted
spread-inserted d [] cs vs = refl
spread-inserted d (false ∷ bs) cs vs = ap (λ t. d ∷ t) (spread-inserted d bs cs vs)
spread-inserted d (true ∷ bs) cs [] = ap (λ t. d ∷ t) (spread-inserted d bs cs [])
spread-inserted d (true ∷ bs) cs (v ∷ vs) = ap (λ t. v ∷ t) (spread-inserted d bs cs vs)
