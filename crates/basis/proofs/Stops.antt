-- Where a pass over slots in form stops: at an empty slot, whose digit is the highest that is left, or past the last, with no key left.
-- Assumes nothing.
use mathlib.Core.Path.{◌≡◌, sym, ap, ◌∙◌}
use Prim.Native.Nat.{ℕ, suc, ◌+◌, ◌-◌, ◌^◌, ◌<◌}
use native.Mathlib.Nat.{add-suc, add-zero, le_trans, le-add_right}
use native.Mathlib.Decide.{dec_lt}
use native.Mathlib.Omega.{arith}
use mathlib.Core.Bool.{true, false, not, true≢false}
use mathlib.Core.List.{List, [], ◌∷◌}
use mathlib.Core.Logic.{inl, inr}
use lib.ListN.{length, get_or}
use lib.Pow.{pow_pos, pow_mono}
use borrow.Author.Tests.{lt-ltb, le-ltb}
use lib.Dec.{ltb}
use Rattle.space.specs.Space.{◌⊕◌}
use Rattle.basis.specs.Algorithm2.{digit, later, pass}
use Rattle.basis.proofs.Passes.{Slot, Formed, slot-empty, pass-cases, pass-stop_le}
use Rattle.basis.proofs.Digits.{Top, tops_⊕, digit_low, digit_high, digit_none}

slot_top : (k s : ℕ) → Slot k s → digit k s ≡ true → Top k s
slot_top k s (inl e) d = absurd (true≢false (sym d ∙ ap (digit k) e ∙ digit_low k 0 (pow_pos k)))
slot_top k s (inr h) d = h

module _ (t s : ℕ) (ss : List ℕ) (f : Slot (t + length ss) s) (w : ℕ) (h : w < 2 ^ (t + length (s ∷ ss))) where
  here : w < 2 ^ suc (t + length ss)
  here = rw (add-suc t (length ss)) at h

  set_top : digit (t + length ss) w ≡ true → Top (t + length ss) w
  set_top p = record { low = digit_high (t + length ss) w p; high = here }

  added_lt : digit (t + length ss) w ≡ true → digit (t + length ss) s ≡ true → w ⊕ s < 2 ^ (t + length ss)
  added_lt p q = tops_⊕ (t + length ss) w s (set_top p) (slot_top (t + length ss) s f q)

  skipped_lt : digit (t + length ss) w ≡ false → w < 2 ^ (t + length ss)
  skipped_lt p = digit_none (t + length ss) w here p

-- at an empty slot, whose digit is the highest that is left; or past the last, and no key is left
pub pass-stop : (t : ℕ) (ss : List ℕ) → Formed t ss → (w : ℕ) → w < 2 ^ (t + length ss)
    → (k : ℕ) → (pass t ss w).stop + suc k ≡ length ss → Top (t + k) (pass t ss w).vector × (get_or ss (pass t ss w).stop 0 ≡ 0)
unfolding pass later Formed
pass-stop t [] f w h = λ k e. absurd (omega arith)
pass-stop t (s ∷ ss) f w h =
    pass-cases t s ss w (λ p. (k : ℕ) → p.stop + suc k ≡ suc (length ss) → Top (t + k) p.vector × (get_or (s ∷ ss) p.stop 0 ≡ 0))
    (λ p q k e. let n : length ss ≡ k = omega arith in
    (rw n at (set_top t s ss f.0 w h p), slot-empty (t + length ss) s f.0 q))
    (λ p q k e. pass-stop t ss f.1 (w ⊕ s) (added_lt t s ss f.0 w h p q) k (omega arith))
    (λ p k e. pass-stop t ss f.1 w (skipped_lt t s ss f.0 w h p) k (omega arith))

pub pass_end : (t : ℕ) (ss : List ℕ) → Formed t ss → (w : ℕ) → w < 2 ^ (t + length ss) → (pass t ss w).stop ≡ length ss → (pass t ss w).vector < 2 ^ t
unfolding pass later Formed
pass_end t [] f w h = λ e. rw (add-zero t) at h
pass_end t (s ∷ ss) f w h =
    pass-cases t s ss w (λ p. p.stop ≡ suc (length ss) → p.vector < 2 ^ t)
    (λ p q e. absurd (omega arith))
    (λ p q e. pass_end t ss f.1 (w ⊕ s) (added_lt t s ss f.0 w h p q) (omega arith))
    (λ p e. pass_end t ss f.1 w (skipped_lt t s ss f.0 w h p) (omega arith))

-- so it goes by all slots exactly where no key is left
pub pass_test : (t : ℕ) (ss : List ℕ) → Formed t ss → (w : ℕ) → w < 2 ^ (t + length ss)
    → ltb (pass t ss w).stop (length ss) ≡ not (ltb (pass t ss w).vector (2 ^ t))
pass_test t ss f w h = go (dec_lt (pass t ss w).stop (length ss))
  where
    go : Dec ((pass t ss w).stop < length ss) → ltb (pass t ss w).stop (length ss) ≡ not (ltb (pass t ss w).vector (2 ^ t))
    go (yes l) =
        let k : ℕ = length ss - suc (pass t ss w).stop in
        let top : Top (t + k) (pass t ss w).vector = (pass-stop t ss f w h k (omega arith)).0 in
        rw (lt-ltb (pass t ss w).stop (length ss) l) (rw (le-ltb (pass t ss w).vector (2 ^ t) (le_trans (pow_mono (le-add_right t k)) top.low)))
    go (no l) =
        rw (le-ltb (pass t ss w).stop (length ss) (omega arith))
        (rw (lt-ltb (pass t ss w).vector (2 ^ t) (pass_end t ss f w h (omega (arith, pass-stop_le t ss w)))))
