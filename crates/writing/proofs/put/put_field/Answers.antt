-- `writing::put::put_field` meets its contract: two parts, tag and length and then the value.
-- Assumes nothing.
use mathlib.Core.Path.{ap, ◌∙◌}
use Prim.Native.Nat.{ℕ}
use native.Mathlib.Omega.{arith}
use Rattle.octets.specs.Octets.{bytes}
use Rattle.octets.proofs.Numbers.{length-bytes}
use Rattle.frame.specs.Layout.{mark, field_bytes}
use Rattle.frame.proofs.Lengths.{length-mark}
use Rattle.octets.proofs.Parts.{second-long, two-filled}
use Rattle.writing.proofs.put.put_field.Goals as goal

pub returns : goal.returns
unfolding field_bytes
returns c =
    let a = c.args in
    let into = a.into.now in
    let marked = c.put_mark in
    let mark-long = length-mark a.tag a.size in
    let wide = length-bytes a.size a.value in
    let left = second-long 3 (mark a.tag a.size) into marked.new.into marked.ensures mark-long a.size (omega arith) in
    let put = c.put.ensures ∙ ap (λ (w : ℕ). bytes w a.value) left in
    rw wide (two-filled 3 (mark a.tag a.size) into marked.new.into marked.ensures mark-long (bytes a.size a.value) _ put (omega (arith, wide)))
