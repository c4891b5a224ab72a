-- A test that 0 passes, and with two vectors their sum, is passed by all that vectors passing it span; and these have no more digits than those vectors.
-- Assumes nothing.
use mathlib.Core.Path.{◌≡◌}
use Prim.Native.Nat.{ℕ, ◌^◌}
use mathlib.Core.Bool.{Bool, true, false}
use mathlib.Core.List.{List, [], ◌∷◌}
use Rattle.space.specs.Lists.{All, Below}
use Rattle.space.specs.Space.{◌⊕◌, sum_of, spans, set_of}
use Rattle.space.proofs.Sets.{sum_lt, set_of-sum}

module _ (p : ℕ → Bool) (none : p 0 ≡ true) (add : (a b : ℕ) → p a ≡ true → p b ≡ true → p (a ⊕ b) ≡ true) where
  -- sums of vectors that pass
  pub closed_sum : (ks : List ℕ) → All p ks → (set : List Bool) → p (sum_of ks set) ≡ true
  unfolding sum_of
  closed_sum [] a set = none
  closed_sum (k ∷ ks) a [] = none
  closed_sum (k ∷ ks) a (true ∷ set) = add k (sum_of ks set) a.0 (closed_sum ks a.1 set)
  closed_sum (k ∷ ks) a (false ∷ set) = closed_sum ks a.1 set

  -- and so all that they span
  pub closed_span : (ks : List ℕ) → All p ks → (v : ℕ) → spans ks v ≡ true → p v ≡ true
  closed_span ks a v h = rw (set_of-sum ks v h) at (closed_sum ks a (set_of ks v))

pub span_below : (n : ℕ) (ks : List ℕ) → Below (2 ^ n) ks → (vs : List ℕ) → All (spans ks) vs → Below (2 ^ n) vs
span_below n ks b [] a = tt
span_below n ks b (v ∷ vs) a = (rw (set_of-sum ks v a.0) at (sum_lt n ks b (set_of ks v)), span_below n ks b vs a.1)
