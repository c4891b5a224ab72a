-- One slot written where it was empty: the slots stay in form, and span one vector more.
-- Assumes nothing.
use mathlib.Core.Path.{◌≡◌, refl}
use Prim.Native.Nat.{ℕ, zero, suc, ◌+◌, ◌<◌}
use native.Mathlib.Omega.{arith}
use mathlib.Core.Bool.{Bool, true, false, ◌||◌}
use mathlib.Core.List.{List, [], ◌∷◌}
use mathlib.Core.Logic.{inl, inr}
use lib.ListN.{length, get_or, set, length-set, replicate}
use Rattle.space.specs.Space.{◌⊕◌, spans}
use Rattle.space.specs.Lists.{All}
use Rattle.space.proofs.Xor.{⊕_zero, ⊕_swap}
use Rattle.space.proofs.Sets.{spans_zero}
use Rattle.basis.proofs.Digits.{Top}
use Rattle.basis.proofs.Passes.{Formed}

pub formed_set : (t : ℕ) (ss : List ℕ) (i k w : ℕ) → i + suc k ≡ length ss → Formed t ss → Top (t + k) w → Formed t (set ss i w)
unfolding Formed
formed_set t [] i k w e f h = absurd (omega arith)
formed_set t (s ∷ ss) zero k w e f h = let n : k ≡ length ss = omega arith in (inr (rw n at h), f.1)
formed_set t (s ∷ ss) (suc i) k w e f h = (rw (length-set ss i w) f.0, formed_set t ss i k w (omega arith) f.1 h)

same : (b : Bool) → (b || b) ≡ b
same true = refl
same false = refl

swap_or : (a b c d : Bool) → ((a || b) || (c || d)) ≡ ((a || c) || (b || d))
swap_or true b c d = refl
swap_or false true true d = refl
swap_or false true false d = refl
swap_or false false c d = refl

pub spans-set : (ss : List ℕ) (i w v : ℕ) → i < length ss → get_or ss i 0 ≡ 0 → spans (set ss i w) v ≡ (spans ss v || spans ss (v ⊕ w))
unfolding spans
spans-set [] i w v h z = absurd (omega arith)
spans-set (s ∷ ss) zero w v h z =
    rw z (rw (⊕_zero v) (rw (⊕_zero (v ⊕ w)) (rw (same (spans ss v)) (rw (same (spans ss (v ⊕ w)))))))
spans-set (s ∷ ss) (suc i) w v h z =
    rw (spans-set ss i w v (omega arith) z) (rw (spans-set ss i w (v ⊕ s) (omega arith) z)
    (rw (⊕_swap v s w) (swap_or (spans ss v) (spans ss (v ⊕ w)) (spans ss (v ⊕ s)) (spans ss (v ⊕ w ⊕ s)))))

pub all_set : (p : ℕ → Bool) (w : ℕ) (xs : List ℕ) (j : ℕ) → All p xs → p w ≡ true → All p (set xs j w)
all_set p w [] j a b = tt
all_set p w (x ∷ xs) zero a b = (b, a.1)
all_set p w (x ∷ xs) (suc j) a b = (a.0, all_set p w xs j a.1 b)

-- empty slots
pub formed_none : (t d : ℕ) → Formed t (replicate d 0)
unfolding Formed
formed_none t zero = tt
formed_none t (suc d) = (inl refl, formed_none t d)

pub zeros_spanned : (d : ℕ) → All (spans []) (replicate d 0)
zeros_spanned zero = tt
zeros_spanned (suc d) = (spans_zero [], zeros_spanned d)
