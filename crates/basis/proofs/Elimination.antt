-- Slots that stand for lifted rows: a pass tells whether a row is a sum of kept rows, and of which set; and what it leaves of a row
-- that is none makes slots that stand for one kept row more.
-- Assumes nothing.
use mathlib.Core.Path.{◌≡◌, sym, ap, ap₂, ◌∙◌}
use Prim.Native.Nat.{ℕ, suc, ◌+◌, ◌-◌, ◌*◌, ◌^◌, ◌≤◌, ◌<◌}
use native.Mathlib.Nat.{zero-add, add_comm, lt_of_lt_of_le}
use native.Mathlib.Omega.{arith}
use mathlib.Core.Bool.{true, not}
use mathlib.Core.List.{List, [], ◌∷◌, ◌++◌}
use lib.Dec.{ltb}
use lib.ListN.{length, get_or, set}
use lib.Pow.{pow-lt, pow_mono, shl_lt}
use Rattle.space.specs.Space.{◌⊕◌, sum_by, spans, set_of, independent}
use Rattle.space.proofs.Xor.{⊕_self, zero_⊕, ⊕_zero, ⊕_cancel_r, ⊕_four}
use Rattle.space.proofs.Sets.{set_of_unique}
use Rattle.basis.specs.Algorithm2.{digits, pass}
use Rattle.basis.proofs.Digits.{Top, top_⊕}
use Rattle.basis.proofs.Passes.{pass_move}
use Rattle.basis.proofs.Stops.{pass-stop, pass_test}
use Rattle.basis.proofs.Stands.{Stand, key-⊕, key_low, stand_move, stand_test, stand_keep}
use Rattle.basis.proofs.Tails.{length_digits, sum_by-digits, tail-⊕, tail_low, tail_shl, key_shl}
use Rattle.basis.proofs.Lifted.{lifted, lifted-snoc, lifted_keys, lifted-named}

abbrev pub Rows : ℕ → List ℕ → List ℕ → Type 0
Rows t ks ss = Stand t (lifted t 0 ks) ss

abbrev pub left : ℕ → List ℕ → ℕ → ℕ
left t ss v = (pass t ss (v * 2 ^ t)).vector

module _ (t : ℕ) (ks ss : List ℕ) (room : length ks ≤ t) (S : Rows t ks ss) (v : ℕ) where
  -- no key is left exactly where the row is a sum of kept rows
  pub rows_low : ltb (left t ss v) (2 ^ t) ≡ spans ks v
  rows_low = rw (key_shl t v) at (rw (lifted_keys t 0 ks (omega arith)) at (stand_test t (lifted t 0 ks) ss S (v * 2 ^ t)))

  -- and then the digits below name its set
  pub rows-set : independent ks ≡ true → left t ss v < 2 ^ t → digits (length ks) (left t ss v) ≡ set_of ks v
  rows-set i h = set_of_unique ks i v (digits (length ks) q) (length_digits (length ks) q) (sym (sum_by-digits ks q) ∙ sym v_named)
    where
      q : ℕ
      q = left t ss v

      moved : v ⊕ sum_by ks q ≡ 0
      moved =
          sym (ap₂ (λ (a b : ℕ). a ⊕ sum_by ks b)
          (key-⊕ t (v * 2 ^ t) q ∙ rw (key_shl t v) (rw (key_low t q h) (⊕_zero v)))
          (tail-⊕ t (v * 2 ^ t) q ∙ rw (tail_shl t v) (rw (tail_low t q h) (zero_⊕ q))))
          ∙ lifted-named t ks room (v * 2 ^ t ⊕ q) (stand_move t (lifted t 0 ks) ss S (v * 2 ^ t))

      v_named : v ≡ sum_by ks q
      v_named = sym (⊕_cancel_r v (sum_by ks q)) ∙ ap (λ (x : ℕ). x ⊕ sum_by ks q) moved ∙ zero_⊕ (sum_by ks q)

  module _ (small : v < 2 ^ length ss) where
    whole : v * 2 ^ t < 2 ^ (t + length ss)
    whole = rw (add_comm (length ss) t) at (shl_lt (length ss) t small)

    -- the pass stops exactly where it is none
    pub rows_test : ltb (pass t ss (v * 2 ^ t)).stop (length ss) ≡ not (spans ks v)
    rows_test = pass_test t ss S.formed (v * 2 ^ t) whole ∙ ap not rows_low

    -- where it stops, what is left is no longer than the slots
    pub rows_lt : (pass t ss (v * 2 ^ t)).stop < length ss → left t ss v < 2 ^ (t + length ss)
    rows_lt h =
        let k : ℕ = length ss - suc (pass t ss (v * 2 ^ t)).stop in
        let top : Top (t + k) (left t ss v) = (pass-stop t ss S.formed (v * 2 ^ t) whole k (omega arith)).0 in
        lt_of_lt_of_le top.high (pow_mono (omega arith))

    pub rows_keep : length ks < t → (pass t ss (v * 2 ^ t)).stop < length ss
        → Rows t (ks ++ (v ∷ [])) (set ss (pass t ss (v * 2 ^ t)).stop (left t ss v ⊕ 2 ^ length ks))
    rows_keep less h =
        rw (lifted-snoc t 0 ks v) (rw (zero-add (length ks)) (stand_keep t (lifted t 0 ks) ss S (pass t ss (v * 2 ^ t)).stop k
        (v * 2 ^ t ⊕ 2 ^ length ks) (q ⊕ 2 ^ length ks) stops stop.1
        (top_⊕ (t + k) q (2 ^ length ks) stop.0 (pow-lt (omega arith))) (rw both (pass_move t ss (v * 2 ^ t)))))
      where
        q : ℕ
        q = left t ss v

        k : ℕ
        k = length ss - suc (pass t ss (v * 2 ^ t)).stop

        stops : (pass t ss (v * 2 ^ t)).stop + suc k ≡ length ss
        stops = omega arith

        stop : Top (t + k) q × (get_or ss (pass t ss (v * 2 ^ t)).stop 0 ≡ 0)
        stop = pass-stop t ss S.formed (v * 2 ^ t) whole k stops

        both : v * 2 ^ t ⊕ 2 ^ length ks ⊕ (q ⊕ 2 ^ length ks) ≡ v * 2 ^ t ⊕ q
        both = ⊕_four (v * 2 ^ t) (2 ^ length ks) q (2 ^ length ks) ∙ rw (⊕_self (2 ^ length ks)) (⊕_zero (v * 2 ^ t ⊕ q))
