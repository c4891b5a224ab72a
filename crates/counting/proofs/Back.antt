-- The uses that came back counted.
-- Assumes nothing.
use mathlib.Core.Path.{◌≡◌, sym, ap, ◌∙◌}
use mathlib.Core.List.{List}
use Prim.Native.Nat.{ℕ, ◌+◌, ◌-◌, ◌*◌, ◌≤◌}
use native.Mathlib.Omega.{arith}
use lib.ListN.{length, take, drop}
use borrow.Rule.Slice.PartMut.{put_mid}
use Rattle.octets.specs.Octets.{number, flat, lay}
use Rattle.octets.proofs.Parts.{back}
use Rattle.octets.proofs.Views.{numbers-take, length_part}
use Rattle.reading.specs.Raised.{raised}
use Rattle.basis.specs.Algorithm2.{digits}
use Rattle.tally.specs.Tally.{most_kept, tail_bytes, raised_uses, tallied}
use Rattle.tally.proofs.Fits.{tallied_is}
use Rattle.state.specs.Layout.{uses_at, state_bytes, uses_in}
use Rattle.state.proofs.Sizes.{sizes}

pub counted-laid : (tail : List ℕ) (r : ℕ) (state new : List ℕ) → length tail ≡ tail_bytes → r ≤ most_kept → state_bytes ≤ length state
    → length new ≡ length (take (uses_at + 2 * r - uses_at) (drop uses_at state)) → new ≡ tallied r tail (take (uses_at + 2 * r - uses_at) (drop uses_at state))
    → put_mid uses_at (uses_at + 2 * r - uses_at) state new ≡ lay uses_at (flat 2 (raised (digits r (number tail)) (uses_in r state))) state
unfolding uses_in raised_uses
counted-laid tail r state new t hr hs n e =
    let k : uses_at + 2 * r - uses_at ≡ 2 * r = omega arith in
    let size : length (take (uses_at + 2 * r - uses_at) (drop uses_at state)) ≡ 2 * r = rw k (length_part (2 * r) uses_at state (omega (arith, sizes))) in
    back uses_at (uses_at + 2 * r - uses_at) new state (n ∙ size ∙ sym k)
    ∙ ap (λ (l : List ℕ). lay uses_at l state) (e ∙ tallied_is r tail (take (uses_at + 2 * r - uses_at) (drop uses_at state)) hr t size
    ∙ ap (λ (us : List ℕ). flat 2 (raised (digits r (number tail)) us)) (numbers-take 2 r (uses_at + 2 * r - uses_at) (drop uses_at state) (omega arith)))
