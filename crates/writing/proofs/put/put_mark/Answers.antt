-- `writing::put::put_mark` meets its contract: the tag, and behind it the two bytes of the length.
-- Assumes nothing.
use mathlib.Core.Path.{◌≡◌, refl, ap, ◌∙◌}
use Prim.Native.Nat.{ℕ}
use native.Mathlib.Omega.{arith}
use mathlib.Core.List.{[], ◌∷◌, ◌++◌}
use lib.ListN.{drop, set}
use lib.Seq.{set_split}
use Rattle.octets.specs.Octets.{bytes}
use Rattle.octets.proofs.Numbers.{length-bytes}
use Rattle.frame.specs.Layout.{mark}
use Rattle.octets.proofs.Parts.{second-long, two-filled}
use Rattle.writing.proofs.put.put_mark.Goals as goal

pub returns : goal.returns
unfolding mark
returns c =
    let a = c.args in
    let into = a.into.now in
    let tagged : set into 0 a.tag ≡ (a.tag ∷ []) ++ drop 1 into = set_split into 0 a.tag (omega arith) in
    let left = second-long 1 (a.tag ∷ []) into (a.tag ∷ []) refl refl 2 (omega arith) in
    let put = rw tagged at c.put.ensures ∙ ap (λ (w : ℕ). bytes w a.size) left in
    rw tagged (two-filled 1 (a.tag ∷ []) into (a.tag ∷ []) refl refl (bytes 2 a.size) _ put (omega (arith, length-bytes 2 a.size)))
