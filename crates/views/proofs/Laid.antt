-- How the slots and the numbers of two bytes in a state change with a part that is laid in it.
-- Assumes nothing.
use mathlib.Core.Path.{◌≡◌, refl, sym, ap, ◌∙◌}
use mathlib.Core.Bool.{Bool, true, false, cond}
use mathlib.Core.List.{List, [], ◌∷◌, ◌++◌}
use Prim.Native.Nat.{ℕ, suc, ◌+◌, ◌-◌, ◌*◌, ◌^◌, ◌≤◌, ◌<◌}
use native.Mathlib.Nat.{mul_comm, le_refl, add-zero}
use native.Mathlib.Omega.{arith}
use lib.ListN.{length, drop, set, length-drop}
use lib.Seq.{set_at}
use Rattle.space.specs.Lists.{Below}
use Rattle.octets.specs.Octets.{bytes, numbers, flat, over, lay}
use Rattle.octets.proofs.Numbers.{length-bytes, number-bytes}
use Rattle.octets.proofs.Lay.{lay_zero, drop-after}
use Rattle.octets.proofs.Runs.{length-flat, length-numbers, numbers-flat, take-over}
use Rattle.octets.proofs.Views.{numbers-take}
use Rattle.octets.proofs.Laid.{drop-lay, numbers-before, numbers-lay, numbers-snoc}
use Rattle.slots.specs.Reducing.{slots_of}
use Rattle.state.specs.Layout.{vector_bytes, uses_at, state_bytes, slots_in}
use Rattle.state.proofs.Sizes.{sizes, slots_end}

-- what nothing is written to tells the same
pub unless : {A : Type 0} (tells : List ℕ → A) (fits : Bool) (new old : List ℕ) → (fits ≡ true → tells new ≡ tells old) → tells (cond fits new old) ≡ tells old
unless tells true new old stays = stays refl
unless tells false new old stays = refl

-- ---- what lies elsewhere stays

module _ (at : ℕ) (new state : List ℕ) (fits : at + length new ≤ length state) where
  pub slots_stay : (key : ℕ) → key ≤ 40 → uses_at ≤ at → slots_in key (lay at new state) ≡ slots_in key state
  unfolding slots_in slots_of
  slots_stay key h l = numbers-before vector_bytes (8 * key) at new state (omega (arith, slots_end key h)) (omega arith)

  -- numbers of two bytes from a base on, before and behind what is laid
  pub pairs-before : (base r : ℕ) → base + 2 * r ≤ at → numbers 2 r (drop base (lay at new state)) ≡ numbers 2 r (drop base state)
  pairs-before base r h =
      let e : base + (at - base) ≡ at = omega arith in
      ap (λ (k : ℕ). numbers 2 r (drop base (lay k new state))) (sym e) ∙ ap (numbers 2 r) (drop-lay base (at - base) new state (omega arith))
      ∙ numbers-before 2 r (at - base) new (drop base state) (omega arith) (omega (arith, length-drop base state))

  pub pairs-behind : (base r : ℕ) → at + length new ≤ base → numbers 2 r (drop base (lay at new state)) ≡ numbers 2 r (drop base state)
  pairs-behind base r h = ap (numbers 2 r) (drop-after base at new state h (omega arith))

-- ---- what is laid is there

-- one of n numbers of two bytes
pub pairs_set : (base n j x : ℕ) (state : List ℕ) → x < 65536 → j < n → base + 2 * n ≤ length state
    → numbers 2 n (drop base (lay (base + 2 * j) (bytes 2 x) state)) ≡ set (numbers 2 n (drop base state)) j x
pairs_set base n j x state small l h =
    ap (numbers 2 n) (drop-lay base (2 * j) (bytes 2 x) state (omega arith) ∙ ap (λ (k : ℕ). lay k (bytes 2 x) (drop base state)) (mul_comm 2 j))
    ∙ numbers-lay 2 n j (bytes 2 x) (drop base state) (length-bytes 2 x) l (omega (arith, length-drop base state))
    ∙ ap (set (numbers 2 n (drop base state)) j) (number-bytes 2 x small)

-- the last of them
pub set_last : (n x : ℕ) (bs : List ℕ) → set (numbers 2 (suc n) bs) n x ≡ numbers 2 n bs ++ (x ∷ [])
set_last n x bs = ap (λ (l : List ℕ). set l n x) (numbers-snoc 2 n bs) ∙ set_at (numbers 2 n bs) _ [] x n (length-numbers 2 n bs)

-- all of them anew
pub pairs_anew : (base r : ℕ) (us state : List ℕ) → length us ≡ r → Below 65536 us → base ≤ length state → numbers 2 r (drop base (lay base (flat 2 us) state)) ≡ us
pairs_anew base r us state e b l =
    let z : base + 0 ≡ base = add-zero base in
    ap (numbers 2 r) (ap (λ (k : ℕ). drop base (lay k (flat 2 us) state)) (sym z) ∙ drop-lay base 0 (flat 2 us) state l ∙ lay_zero (flat 2 us) (drop base state))
    ∙ sym (numbers-take 2 r (r * 2) (over (flat 2 us) (drop base state)) (le_refl (r * 2)))
    ∙ ap (numbers 2 r) (take-over (flat 2 us) (drop base state) (r * 2) (length-flat 2 us ∙ ap (λ (n : ℕ). n * 2) e))
    ∙ ap (λ (n : ℕ). numbers 2 n (flat 2 us)) (sym e) ∙ numbers-flat 2 us b

-- one slot
pub slot-set : (key t x : ℕ) (state : List ℕ) → key ≤ 40 → t < 8 * key → state_bytes ≤ length state → x < 2 ^ (8 * vector_bytes)
    → slots_in key (lay (t * vector_bytes) (bytes vector_bytes x) state) ≡ set (slots_in key state) t x
unfolding slots_in slots_of
slot-set key t x state h l whole small =
    numbers-lay vector_bytes (8 * key) t (bytes vector_bytes x) state (length-bytes vector_bytes x) l (omega (arith, sizes, slots_end key h))
    ∙ ap (set (numbers vector_bytes (8 * key) state) t) (number-bytes vector_bytes x small)
