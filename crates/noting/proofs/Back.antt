-- The filter that came back, emptied or with a seed noted in it.
-- Assumes nothing.
use mathlib.Core.Path.{◌≡◌, ap, ◌∙◌}
use mathlib.Core.Bool.{Bool}
use mathlib.Core.List.{List}
use Prim.Native.Nat.{ℕ, ◌+◌, ◌≤◌}
use native.Mathlib.Omega.{arith}
use lib.ListN.{length, take, drop, replicate, length-replicate}
use borrow.Rule.Slice.PartMut.{put_mid}
use Rattle.octets.specs.Octets.{lay}
use Rattle.octets.proofs.Parts.{back}
use Rattle.octets.proofs.Views.{length_part}
use Rattle.filter.specs.Filter.{filter_bytes, noted, note, note_answer, note_filter}
use Rattle.filter.proofs.Noted.{note_is, length-note}

module _ (at k : ℕ) (state new : List ℕ) (h : at + k ≤ length state) where
  pub forgotten-laid : new ≡ replicate (length (take k (drop at state))) 0 → put_mid at k state new ≡ lay at (replicate k 0) state
  forgotten-laid e =
      let is : new ≡ replicate k 0 = e ∙ ap (λ (n : ℕ). replicate n 0) (length_part k at state h) in
      back at k new state (ap length is ∙ length-replicate {A = ℕ} k 0) ∙ ap (λ (v : List ℕ). lay at v state) is

  module _ (seed : ℕ) (wide : filter_bytes ≤ k) where
    enough : filter_bytes ≤ length (take k (drop at state))
    enough = omega (arith, wide, length_part k at state h)

    pub seed-told : (answer : Bool) → answer ≡ note_answer seed (take k (drop at state)) → answer ≡ noted seed (take k (drop at state))
    seed-told answer e = e ∙ (note_is seed (take k (drop at state)) enough).0

    pub noted-laid : new ≡ note_filter seed (take k (drop at state)) → put_mid at k state new ≡ lay at (note seed (take k (drop at state))) state
    noted-laid e =
        let is : new ≡ note seed (take k (drop at state)) = e ∙ (note_is seed (take k (drop at state)) enough).1 in
        back at k new state (ap length is ∙ length-note seed (take k (drop at state)) ∙ length_part k at state h) ∙ ap (λ (v : List ℕ). lay at v state) is
