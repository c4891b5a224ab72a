-- What it is to change some of the first bytes of a buffer: writing over its front does, and so do two changes one after the other.
-- Assumes nothing.
use mathlib.Core.Path.{◌≡◌, refl, sym, ap, ◌∙◌}
use Prim.Native.Nat.{ℕ, ◌+◌, ◌-◌, ◌≤◌}
use native.Mathlib.Omega.{arith}
use mathlib.Core.List.{List}
use lib.ListN.{length, drop}
use lib.Seq.{drop-drop}
use Rattle.octets.specs.Octets.{over, lay}
use Rattle.octets.proofs.Runs.{length_over}
use Rattle.octets.proofs.Lay.{drop-over, length-lay, drop-after}
use Rattle.stored.specs.Others.{Within}

pub same_within : (k : ℕ) (bs : List ℕ) → Within k bs bs
same_within k bs = record { long = refl; behind = refl }

pub then_within : (k : ℕ) (a b c : List ℕ) → Within k a b → Within k b c → Within k a c
then_within k a b c v w = record { long = w.long ∙ v.long; behind = w.behind ∙ v.behind }

pub within_more : (k m : ℕ) (old new : List ℕ) → k ≤ m → Within k old new → Within m old new
within_more k m old new h w =
    let sum : k + (m - k) ≡ m = omega arith in
    let from : (bs : List ℕ) → drop m bs ≡ drop (m - k) (drop k bs) = λ bs. sym (drop-drop (m - k) k bs ∙ ap (λ (j : ℕ). drop j bs) sum) in
    record { long = w.long; behind = from new ∙ ap (drop (m - k)) w.behind ∙ sym (from old) }

pub over-within : (k : ℕ) (new old : List ℕ) → length new ≤ k → length new ≤ length old → Within k old (over new old)
over-within k new old h room = record { long = length_over new old room; behind = drop-over k new old h }

pub lay-within : (k at : ℕ) (new old : List ℕ) → at + length new ≤ k → at + length new ≤ length old → Within k old (lay at new old)
lay-within k at new old h room = record { long = length-lay at new old room; behind = drop-after k at new old h (omega arith) }
