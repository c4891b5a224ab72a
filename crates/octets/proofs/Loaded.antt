-- Bytes with zeros behind them: the number they stand for, and a buffer that was cleared and then written.
-- Assumes nothing.
use mathlib.Core.Path.{◌≡◌, refl, ap, ap₂, ◌∙◌}
use mathlib.Core.List.{List, ◌∷◌, ◌++◌}
use Prim.Native.Nat.{ℕ, zero, suc, ◌+◌, ◌-◌, ◌*◌, ◌^◌, ◌≤◌}
use native.Mathlib.Nat.{zero-mul, zero-add, add-zero}
use native.Mathlib.Omega.{arith}
use lib.ListN.{length, take, drop, replicate, length-replicate, replicate-append-replicate}
use lib.Seq.{take_all}
use Rattle.octets.specs.Octets.{number, numbers, over}
use Rattle.octets.proofs.Numbers.{number_append}

pub number-zeros : (n : ℕ) → number (replicate n 0) ≡ 0
unfolding number
number-zeros zero = refl
number-zeros (suc n) = rw (zero-mul (2 ^ (8 * length {A = ℕ} (replicate n 0)))) (zero-add (number (replicate n 0)) ∙ number-zeros n)

pub number_loaded : (row : List ℕ) (n : ℕ) → number (row ++ replicate n 0) ≡ number row * 2 ^ (8 * n)
number_loaded row n = number_append row (replicate n 0) ∙ rw (number-zeros n, length-replicate {A = ℕ} n 0) (add-zero _)

pub drop-zeros : (k n : ℕ) → drop {A = ℕ} k (replicate n 0) ≡ replicate (n - k) 0
drop-zeros zero n = let e : n - 0 ≡ n = omega arith in rw e
drop-zeros (suc k) zero = let e : 0 - suc k ≡ 0 = omega arith in rw e
drop-zeros (suc k) (suc n) = let e : suc n - suc k ≡ n - k = omega arith in rw e (drop-zeros k n)

pub take-zeros : (k n : ℕ) → k ≤ n → take {A = ℕ} k (replicate n 0) ≡ replicate k 0
take-zeros zero n h = refl
take-zeros (suc k) zero h = absurd (omega arith)
take-zeros (suc k) (suc n) h = ap (λ (t : List ℕ). 0 ∷ t) (take-zeros k n (omega arith))

pub numbers-zeros : (w n m : ℕ) → n * w ≤ m → numbers w n (replicate m 0) ≡ replicate n 0
unfolding numbers
numbers-zeros w zero m h = refl
numbers-zeros w (suc n) m h =
    ap₂ (λ (x : ℕ) (t : List ℕ). x ∷ t) (ap number (take-zeros w m (omega arith)) ∙ number-zeros w)
    (ap (numbers w n) (drop-zeros w m) ∙ numbers-zeros w n (m - w) (omega arith))

-- zeros over the front of zeros
pub over_zeros : (k n : ℕ) → k ≤ n → over (replicate k 0) (replicate n 0) ≡ replicate n 0
unfolding over
over_zeros k n h =
    let sum : k + (n - k) ≡ n = omega arith in
    rw (length-replicate {A = ℕ} k 0, drop-zeros k n) (replicate-append-replicate k (n - k) 0 ∙ ap (λ (m : ℕ). replicate m 0) sum)

pub loaded_is : (row work : List ℕ) → length row ≤ length work
    → over (take (length {A = ℕ} (replicate (length work) 0)) row) (replicate (length work) 0) ≡ row ++ replicate (length work - length row) 0
unfolding over
loaded_is row work h =
    let n : length {A = ℕ} (replicate (length work) 0) ≡ length work = length-replicate (length work) 0 in
    rw n (rw (take_all (length work) row h) (ap (λ t. row ++ t) (drop-zeros (length row) (length work))))
