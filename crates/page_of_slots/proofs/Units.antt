-- The row (2^k, 0) in bytes, and the payload of what a pass leaves of it.
-- Assumes nothing.
use mathlib.Core.Path.{◌≡◌, sym, ap, ◌∙◌}
use Prim.Native.Nat.{ℕ, ◌+◌, ◌-◌, ◌*◌, ◌/◌, ◌^◌, ◌≤◌, ◌<◌}
use native.Mathlib.Nat.{zero-add, mul_assoc}
use native.Mathlib.Omega.{arith}
use mathlib.Core.List.{List}
use lib.ListN.{take, drop}
use lib.Pow.{pow-lt, pow-add, shl-shr}
use lib.Seq.{take_at, drop_at}
use Rattle.octets.specs.Octets.{number, bytes}
use Rattle.octets.proofs.Numbers.{number-bytes, bytes_mod, length-bytes}
use Rattle.octets.proofs.Digits.{bytes-append}
use Rattle.octets.proofs.Loaded.{number_loaded}
use Rattle.rows.specs.Rows.{payload}
use Rattle.basis.specs.Algorithm2.{Pass}
use Rattle.basis.proofs.Cuts.{cut}
use Rattle.page_of_slots.specs.Symbols.{slots_in, symbol_in}
use Rattle.page_of_slots.specs.Parts.{unit_of}
use Rattle.entering.specs.Enter.{whole_pass}
use Rattle.page_of_slots.proofs.Fronts.{behind, pass-front}

-- the payload in the bytes of a vector
bytes-payload : (l x : ℕ) → l ≤ 32 → take l (drop 8 (bytes 80 x)) ≡ bytes l (payload l (cut (behind (8 + l)) x))
unfolding payload
bytes-payload l x h =
    let j : ℕ = 80 - (8 + l) in
    let parts : 72 ≡ l + j = omega arith in
    ap (take l) (ap (drop 8) (bytes-append 8 72 x) ∙ drop_at (bytes 8 (x / 2 ^ 576)) (bytes 72 x) 8 (length-bytes 8 (x / 2 ^ 576)) ∙ ap (λ (n : ℕ). bytes n x) parts ∙ bytes-append l j x)
    ∙ take_at (bytes l (x / 2 ^ (8 * j))) (bytes j x) l (length-bytes l (x / 2 ^ (8 * j)))
    ∙ sym (rw (zero-add l) at (bytes_mod l 0 (x / 2 ^ (8 * j))))

module _ (l k : ℕ) (slots work left : List ℕ) (most : l ≤ 32) (h : k < 64) (u : work ≡ unit_of 80 k) (e : left ≡ bytes 80 (whole_pass slots work).vector) where
  value : cut (behind (8 + l)) (number work) ≡ 2 ^ k * 2 ^ (8 * l)
  value =
      let s : 576 ≡ 8 * l + behind (8 + l) = omega arith in
      ap (cut (behind (8 + l))) (ap number u ∙ number_loaded (bytes 8 (2 ^ k)) 72 ∙ ap (λ (c : ℕ). c * 2 ^ 576) (number-bytes 8 (2 ^ k) (pow-lt h))
      ∙ ap (λ (e : ℕ). 2 ^ k * 2 ^ e) s ∙ ap (λ (p : ℕ). 2 ^ k * p) (pow-add 2 (8 * l) (behind (8 + l))) ∙ sym (mul_assoc (2 ^ k) (2 ^ (8 * l)) (2 ^ behind (8 + l))))
      ∙ shl-shr (2 ^ k * 2 ^ (8 * l)) (behind (8 + l))

  pub symbol-left : take l (drop 8 left) ≡ bytes l (symbol_in l (slots_in (8 + l) slots) k)
  unfolding symbol_in
  symbol-left =
      let back : 8 + l - 8 ≡ l = omega arith in
      ap (λ (v : List ℕ). take l (drop 8 v)) e ∙ bytes-payload l (whole_pass slots work).vector most
      ∙ sym (ap (λ (p : Pass). bytes l (payload l p.vector)) (rw back at (pass-front (8 + l) (2 ^ k * 2 ^ (8 * l)) slots work (omega arith) (omega arith) value)))
