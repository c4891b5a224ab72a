-- `of_page` meets its contract: where the highest bit stands for a symbol of the page, each does.
-- Assumes nothing.
use mathlib.Core.Path.{sym}
use Prim.Native.Nat.{ℕ, suc, ◌+◌, ◌*◌, ◌/◌, ◌^◌, ◌≤◌, ◌<◌}
use native.Mathlib.Decide.{dec_lt}
use native.Mathlib.Nat.{mod-eq_of_lt, le-div_iff_mul-le, lt_of_lt_of_le, mul-le-mul_right}
use native.Mathlib.Omega.{arith}
use lib.Pow.{pow_pos, pow_mono}
use Rattle.bits.specs.Bits.{highest}
use Rattle.bits.proofs.Bits.{highest_place}
use Rattle.agree.proofs.of_page.Goals as goal

most : (x : ℕ) → highest x ≤ 63
unfolding highest
most x = omega arith

inside : (x l page : ℕ) → x < 2 ^ 64 → 0 < l → (highest x + 1) * l ≤ page → x < 2 ^ (page / l)
inside x l page small some h = go (dec_lt 0 x)
  where
    go : Dec (0 < x) → x < 2 ^ (page / l)
    go (yes p) =
        let room : highest x + 1 ≤ page / l = (le-div_iff_mul-le some).1 h in
        let next : suc (highest x) ≤ page / l = omega arith in
        lt_of_lt_of_le (highest_place x p small).2 (pow_mono next)
    go (no p) = omega (arith, pow_pos (page / l))

pub overflow_add-top : goal.overflow_add-top
overflow_add-top c = omega (arith, c.top.ensures, most c.args.names)

pub overflow_mul-top : goal.overflow_mul-top
overflow_mul-top c =
    let few : c.top.result + 1 ≤ 64 = omega (arith, c.top.ensures, most c.args.names) in
    omega (arith, mul-le-mul_right c.args.l few, c.requires.most)

pub returns-then-top-l : goal.returns-then-top-l
returns-then-top-l c =
    sym (mod-eq_of_lt (inside c.args.names c.args.l c.args.page c.ranges.names.fits c.requires.some (rw c.top.ensures at c.if-top-l.true)))
