-- `numerals::put` meets its contract: a loop from the back that fills with the number's bytes; what is left of the number has the bytes to come.
-- Assumes nothing.
use mathlib.Core.Path.{◌≡◌, refl, sym, ap, ◌∙◌}
use mathlib.Core.List.{List}
use Prim.Native.Nat.{ℕ, ◌+◌, ◌-◌, ◌*◌, ◌/◌, ◌%◌, ◌^◌, ◌<◌}
use native.Mathlib.Nat.{div-one}
use native.Mathlib.Omega.{arith}
use lib.ListN.{length, set, length-set}
use Rattle.octets.specs.Octets.{bytes}
use Rattle.octets.proofs.Numbers.{length-bytes}
use Rattle.octets.proofs.Digits.{get_or-bytes, rest_more}
use Rattle.octets.proofs.Fill.{filled_less, filled-whole}
use Rattle.numerals.proofs.put.Invariants.{Written}
use Rattle.numerals.proofs.put.Goals as goal

start : (old : List ℕ) (x : ℕ) → Written old old x x (length old)
start old x =
    let none : length old - length old ≡ 0 = omega arith in
    record {
      within = omega arith;
      long = refl;
      holds = sym (filled-whole old (bytes (length old) x) (length-bytes (length old) x));
      left = sym (rw none (div-one x));
    }

turn : (old new : List ℕ) (x rest i : ℕ) → Written old new x rest (i + 1) → Written old (set new i (rest % 256)) x (rest / 256) i
turn old new x rest i w =
    let within : i < length old = omega (arith, w.within) in
    let more : length old - (i + 1) + 1 ≡ length old - i = omega arith in
    record {
      within = omega arith;
      long = length-set new i (rest % 256) ∙ w.long;
      holds =
          ap (λ l. set l i (rest % 256)) w.holds
          ∙ rw (ap (λ (r : ℕ). r % 256) w.left ∙ sym (get_or-bytes (length old) x i within))
          (filled_less i old (bytes (length old) x) within (rw (length-bytes (length old) x) within));
      left = rw w.left (rest_more x (length old - (i + 1)) ∙ ap (λ (k : ℕ). x / 2 ^ (8 * k)) more);
    }

pub loop-i-init : goal.loop-i-init
loop-i-init c = start c.args.into.now c.args.x

pub loop-i-preserved : goal.loop-i-preserved
loop-i-preserved c =
    let l = c.loop-i in
    let next : l.i ≡ l.i - 1 + 1 = omega arith in
    turn _ _ _ _ (l.i - 1) (rw next at l.invariant)
