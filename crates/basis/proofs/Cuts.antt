-- A pass over vectors without their lowest digits stops where the pass over the whole ones does, and leaves what that leaves, without
-- these digits.
-- Assumes nothing.
use mathlib.Core.Path.{◌≡◌, refl, sym, ap, ◌∙◌}
use Prim.Native.Nat.{ℕ, ◌+◌, ◌/◌, ◌%◌, ◌^◌}
use native.Mathlib.Nat.{add_comm}
use native.Mathlib.Omega.{arith}
use mathlib.Core.Bool.{Bool, true, false, cond}
use mathlib.Core.List.{List, [], ◌∷◌, map}
use lib.Dec.{eqb}
use lib.ListN.{length, length-map}
use lib.Pow.{shr-shr}
use Rattle.space.specs.Space.{◌⊕◌}
use Rattle.basis.specs.Algorithm2.{digit, Pass, later, pass}
use Rattle.basis.proofs.Stands.{key, key-⊕}

-- what is left of a vector, and of a pass, without the s lowest digits
abbrev pub cut : ℕ → ℕ → ℕ
cut s x = x / 2 ^ s

abbrev pub cut_pass : ℕ → Pass → Pass
cut_pass s p = record { vector = cut s p.vector; stop = p.stop }

digit-cut : (k s x : ℕ) → digit k (cut s x) ≡ digit (k + s) x
unfolding digit
digit-cut k s x = ap (λ (y : ℕ). eqb (y % 2) 1) (shr-shr x s k ∙ ap (λ (e : ℕ). x / 2 ^ e) (add_comm s k))

pub pass-cut : (t s : ℕ) (ss : List ℕ) (v : ℕ) → pass t (map (cut s) ss) (cut s v) ≡ cut_pass s (pass (t + s) ss v)
unfolding pass later key
pass-cut t s [] v = refl
pass-cut t s (x ∷ ss) v = rw (same v, same x) (go (digit (t + s + length ss) v) (digit (t + s + length ss) x) (pass-cut t s ss (v ⊕ x)) (pass-cut t s ss v))
  where
    same : (y : ℕ) → digit (t + length (map (cut s) ss)) (cut s y) ≡ digit (t + s + length ss) y
    same y = digit-cut (t + length (map (cut s) ss)) s y ∙ ap (λ (k : ℕ). digit k y) (omega (arith, length-map ss (cut s)))

    go : (b d : Bool) → pass t (map (cut s) ss) (cut s (v ⊕ x)) ≡ cut_pass s (pass (t + s) ss (v ⊕ x)) → pass t (map (cut s) ss) (cut s v) ≡ cut_pass s (pass (t + s) ss v)
        → cond b (cond d (later (pass t (map (cut s) ss) (cut s v ⊕ cut s x))) (record { vector = cut s v; stop = 0 })) (later (pass t (map (cut s) ss) (cut s v)))
        ≡ cut_pass s (cond b (cond d (later (pass (t + s) ss (v ⊕ x))) (record { vector = v; stop = 0 })) (later (pass (t + s) ss v)))
    go true true added skipped = ap (λ (y : ℕ). later (pass t (map (cut s) ss) y)) (sym (key-⊕ s v x)) ∙ ap later added
    go true false added skipped = refl
    go false d added skipped = ap later skipped
