-- The digits of a word of eight bytes are those of the slots from its first byte on.
-- Assumes nothing.
use mathlib.Core.Path.{◌≡◌, sym, ap, ◌∙◌}
use mathlib.Core.List.{List}
use Prim.Native.Nat.{ℕ, suc, ◌+◌, ◌-◌, ◌*◌, ◌/◌, ◌%◌, ◌^◌, ◌≤◌, ◌<◌}
use native.Mathlib.Omega.{arith}
use lib.Dec.{eqb}
use lib.ListN.{length}
use lib.Pow.{shr-shr, shl-shr}
use Rattle.space.specs.Lists.{Below}
use Rattle.octets.specs.Octets.{number}
use Rattle.words.specs.Words.{word_at}
use Rattle.words.proofs.Words.{word_number}
use Rattle.basis.specs.Algorithm2.{digit}
use Rattle.basis.proofs.Digits.{digit_mod}

-- the digit worth 2^c of the word at byte g stands for slot u
pub word_digit : (v : List ℕ) (g c u : ℕ) → Below 256 v → g ≤ length v → u + c ≡ 8 * g + 63 → c < 64 → u < 8 * length v → digit c (word_at g v) ≡ digit (8 * length v - suc u) (number v)
unfolding digit
word_digit v g c u b i e l h =
    let s : 8 * (length v - g) + c ≡ 64 + (8 * length v - suc u) = omega arith in
    rw (word_number g v b i) (digit_mod c 64 (number v * 2 ^ 64 / 2 ^ (8 * (length v - g))) l
    ∙ ap (λ (y : ℕ). eqb (y % 2) 1) (shr-shr (number v * 2 ^ 64) (8 * (length v - g)) c ∙ ap (λ (k : ℕ). number v * 2 ^ 64 / 2 ^ k) s
    ∙ sym (shr-shr (number v * 2 ^ 64) 64 (8 * length v - suc u)) ∙ ap (λ (y : ℕ). y / 2 ^ (8 * length v - suc u)) (shl-shr (number v) 64)))
