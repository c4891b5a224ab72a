-- `sums::sum` meets its contract: a sum that is added to zeros stands there, and bits past the last symbol name nothing.
-- Assumes nothing.
use mathlib.Core.Path.{◌≡◌, ap, ◌∙◌}
use mathlib.Core.List.{List}
use Prim.Native.Nat.{ℕ, ◌/◌, ◌%◌, ◌^◌}
use native.Mathlib.Nat.{mod-lt, le_of_eq}
use native.Mathlib.Omega.{arith}
use lib.Pow.{pow_pos}
use lib.ListN.{length, replicate, length-replicate}
use Rattle.octets.specs.Octets.{bytes, xor_bytes}
use Rattle.octets.proofs.Numbers.{length-bytes}
use Rattle.octets.proofs.Xors.{xor_bytes_comm, xor_bytes_zero}
use Rattle.rows.specs.Rows.{named}
use Rattle.rows.specs.Bytes.{cut}
use Rattle.rows.proofs.Bits.{named-cut}
use Rattle.sums.proofs.sum.Goals as goal

zeros-add : (l : ℕ) (zeros page : List ℕ) (c r : ℕ) → zeros ≡ replicate l 0 → r ≡ c % 2 ^ (length page / length zeros)
    → xor_bytes zeros (bytes (length zeros) (named (cut (length zeros) page) r)) ≡ bytes l (named (cut l page) c)
zeros-add l zeros page c r e f =
    let long : length zeros ≡ l = ap length e ∙ length-replicate l 0 in
    rw (f, long, named-cut l page c, e) (xor_bytes_comm (replicate l 0) (bytes l (named (cut l page) c))
    ∙ xor_bytes_zero l (bytes l (named (cut l page) c)) (le_of_eq (length-bytes l (named (cut l page) c))))

pub returns-then-l-eq0 : goal.returns-then-l-eq0
unfolding bytes
returns-then-l-eq0 c =
    let none : length c.args.into.now ≡ 0 = omega arith in
    c.clear.ensures ∙ rw none

pub add_named-requires : goal.add_named-requires
add_named-requires c = record { some = omega arith; inside = rw c.low.ensures (mod-lt _ (pow_pos _)) }

pub returns : goal.returns
returns c =
    let s = c.args in
    let low = c.low in
    c.add_named.ensures
    ∙ zeros-add (length s.into.now) c.clear.new.v s.page.now s.constraint low.result c.clear.ensures low.ensures
