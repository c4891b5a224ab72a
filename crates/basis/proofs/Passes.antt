-- What a pass over slots leaves differs from its start by a sum of slots; and over slots in form, each zero or with its highest digit
-- at its own digit, no key is left where the start has the key of a sum of slots.
-- Assumes nothing.
use mathlib.Core.Path.{◌≡◌, refl, sym, ap, ◌∙◌}
use Prim.Native.Nat.{ℕ, suc, ◌+◌, ◌^◌, ◌≤◌, ◌<◌}
use native.Mathlib.Nat.{add-suc, pow-suc, lt_of_lt_of_le}
use native.Mathlib.Omega.{arith}
use mathlib.Core.Bool.{Bool, true, false, cond, true≢false}
use mathlib.Core.List.{List, [], ◌∷◌}
use mathlib.Core.Logic.{◌⊎◌, inl, inr}
use lib.ListN.{length}
use lib.Pow.{pow_pos, pow_mono}
use borrow.Author.Tests.{eqb-true}
use Rattle.space.specs.Space.{◌⊕◌, spans}
use Rattle.space.proofs.Xor.{⊕_comm, ⊕_assoc, ⊕_self, ⊕_zero, ⊕_cancel, ⊕_cancel_r, ⊕_swap, ⊕_lt}
use Rattle.space.proofs.Sets.{spans_zero, spans-cases, spans-left, spans_right}
use Rattle.basis.specs.Algorithm2.{digit, Pass, later, pass}
use Rattle.basis.proofs.Digits.{Top, digit_top, digit_high, digit_none}

-- the three ways at a slot
module _ (t s : ℕ) (ss : List ℕ) (w : ℕ) (P : Pass → Type 0) where
  pub pass-cases : (digit (t + length ss) w ≡ true → digit (t + length ss) s ≡ false → P (record { vector = w; stop = 0 }))
      → (digit (t + length ss) w ≡ true → digit (t + length ss) s ≡ true → P (later (pass t ss (w ⊕ s))))
      → (digit (t + length ss) w ≡ false → P (later (pass t ss w))) → P (pass t (s ∷ ss) w)
  unfolding pass
  pass-cases stop add skip = go (digit (t + length ss) w) refl (digit (t + length ss) s) refl
    where
      go : (b : Bool) → digit (t + length ss) w ≡ b → (d : Bool) → digit (t + length ss) s ≡ d
          → P (cond b (cond d (later (pass t ss (w ⊕ s))) (record { vector = w; stop = 0 })) (later (pass t ss w)))
      go true p true q = add p q
      go true p false q = stop p q
      go false p d q = skip p

-- it moves by a sum of slots
pub pass_move : (t : ℕ) (ss : List ℕ) (w : ℕ) → spans ss (w ⊕ (pass t ss w).vector) ≡ true
unfolding pass later
pass_move t [] w = rw (⊕_self w) (spans_zero [])
pass_move t (s ∷ ss) w =
    pass-cases t s ss w (λ p. spans (s ∷ ss) (w ⊕ p.vector) ≡ true)
    (λ p q. rw (⊕_self w) (spans_zero (s ∷ ss)))
    (λ p q. spans_right s ss (w ⊕ (pass t ss (w ⊕ s)).vector) (rw (⊕_swap w (pass t ss (w ⊕ s)).vector s) (pass_move t ss (w ⊕ s))))
    (λ p. spans-left s ss (w ⊕ (pass t ss w).vector) (pass_move t ss w))

pub pass-stop_le : (t : ℕ) (ss : List ℕ) (w : ℕ) → (pass t ss w).stop ≤ length ss
unfolding pass later
pass-stop_le t [] w = omega arith
pass-stop_le t (s ∷ ss) w =
    pass-cases t s ss w (λ p. p.stop ≤ suc (length ss)) (λ p q. omega arith)
    (λ p q. omega (arith, pass-stop_le t ss (w ⊕ s))) (λ p. omega (arith, pass-stop_le t ss w))

-- ---- slots in form

abbrev pub Slot : ℕ → ℕ → Type 0
Slot k s = (s ≡ 0) ⊎ Top k s

unfoldable pub Formed : ℕ → List ℕ → Type 0
Formed t [] = Unit {0}
Formed t (s ∷ ss) = Slot (t + length ss) s × Formed t ss

slot_lt : (k s : ℕ) → Slot k s → s < 2 ^ suc k
slot_lt k s (inl e) = rw e (pow_pos (suc k))
slot_lt k s (inr h) = h.high

-- a slot without its digit is empty
pub slot-empty : (k s : ℕ) → Slot k s → digit k s ≡ false → s ≡ 0
slot-empty k s (inl e) d = e
slot-empty k s (inr h) d = absurd (true≢false (sym (digit_top k s h) ∙ d))

pub formed_lt : (t : ℕ) (ss : List ℕ) → Formed t ss → (v : ℕ) → spans ss v ≡ true → v < 2 ^ (t + length ss)
unfolding Formed spans
formed_lt t [] f v e = rw (eqb-true v 0 e) (pow_pos (t + 0))
formed_lt t (s ∷ ss) f v e = rw (add-suc t (length ss)) (go (formed_lt t ss f.1) (spans-cases s ss v e))
  where
    more : (x : ℕ) → x < 2 ^ (t + length ss) → x < 2 ^ suc (t + length ss)
    more x h = omega (arith, pow-suc 2 (t + length ss))

    go : ((x : ℕ) → spans ss x ≡ true → x < 2 ^ (t + length ss)) → (spans ss v ≡ true) ⊎ (spans ss (v ⊕ s) ≡ true) → v < 2 ^ suc (t + length ss)
    go ih (inl h) = more v (ih v h)
    go ih (inr h) = rw (⊕_cancel_r v s) at (⊕_lt (suc (t + length ss)) (v ⊕ s) s (more (v ⊕ s) (ih (v ⊕ s) h)) (slot_lt (t + length ss) s f.0))

-- what differs below digit t from a number below 2 ^ k is below it
near : (t k a b : ℕ) → t ≤ k → a ⊕ b < 2 ^ t → b < 2 ^ k → a < 2 ^ k
near t k a b h d q = rw (⊕_cancel_r a b) at (⊕_lt k (a ⊕ b) b (lt_of_lt_of_le d (pow_mono h)) q)

-- where the start has the key of a sum of slots, the end has none
pub pass_zero : (t : ℕ) (ss : List ℕ) → Formed t ss → (w x : ℕ) → w ⊕ x < 2 ^ t → spans ss x ≡ true → (pass t ss w).vector < 2 ^ t
unfolding pass later spans Formed
pass_zero t [] f w x d e = rw (⊕_zero w) at (rw (eqb-true x 0 e) at d)
pass_zero t (s ∷ ss) f w x d e =
    pass-cases t s ss w (λ p. p.vector < 2 ^ t)
    (λ p q. absurd (above p (none (slot-empty (t + length ss) s f.0 q) (spans-cases s ss x e))))
    (λ p q. pass_zero t ss f.1 (w ⊕ s) (x ⊕ s) (rw both d) (added p (spans-cases s ss x e)))
    (λ p. pass_zero t ss f.1 w x d (skipped (digit_none (t + length ss) w whole p) f.0 (spans-cases s ss x e)))
  where
    none : s ≡ 0 → (spans ss x ≡ true) ⊎ (spans ss (x ⊕ s) ≡ true) → spans ss x ≡ true
    none q (inl h) = h
    none q (inr h) = rw (⊕_zero x) at (rw q at h)

    above : digit (t + length ss) w ≡ true → spans ss x ≡ true → ⊥
    above p h = omega (arith, digit_high (t + length ss) w p, near t (t + length ss) w x (omega arith) d (formed_lt t ss f.1 x h))

    both : w ⊕ s ⊕ (x ⊕ s) ≡ w ⊕ x
    both = sym (⊕_assoc (w ⊕ s) x s) ∙ ap (λ (y : ℕ). y ⊕ s) (⊕_swap w s x) ∙ ⊕_cancel_r (w ⊕ x) s

    added : digit (t + length ss) w ≡ true → (spans ss x ≡ true) ⊎ (spans ss (x ⊕ s) ≡ true) → spans ss (x ⊕ s) ≡ true
    added p (inl h) = absurd (above p h)
    added p (inr h) = h

    whole : w < 2 ^ suc (t + length ss)
    whole = near t (suc (t + length ss)) w x (omega arith) d (rw (add-suc t (length ss)) at (formed_lt t (s ∷ ss) (unfold Formed in f) x e))

    skipped : w < 2 ^ (t + length ss) → Slot (t + length ss) s → (spans ss x ≡ true) ⊎ (spans ss (x ⊕ s) ≡ true) → spans ss x ≡ true
    skipped p a (inl h) = h
    skipped p (inl q) (inr h) = none q (inr h)
    skipped p (inr o) (inr h) =
        let small : x < 2 ^ (t + length ss) = near t (t + length ss) x w (omega arith) (rw (⊕_comm x w) d) p in
        let less : x ⊕ s < 2 ^ (t + length ss) = formed_lt t ss f.1 (x ⊕ s) h in
        absurd (omega (arith, o.low, rw (⊕_cancel x s) at (⊕_lt (t + length ss) x (x ⊕ s) small less)))
