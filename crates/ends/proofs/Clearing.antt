-- A scratch that is cleared, as one of a reading's ends leaves it: the zeros are laid over its front, or it is too short and stays.
-- Assumes nothing.
use mathlib.Core.Path.{◌≡◌, sym, ap, ◌∙◌}
use Prim.Native.Nat.{ℕ, ◌≤◌, ◌<◌}
use native.Mathlib.Omega.{arith}
use mathlib.Core.List.{List, ◌++◌}
use lib.ListN.{length, take, drop, replicate, length-replicate}
use lib.Seq.{length-take-le}
use borrow.Author.Tests.{le-leb, lt-leb}
use Rattle.octets.specs.Octets.{over}
use Rattle.octets.proofs.Lay.{over-back, drop-over}
use Rattle.reading.specs.Outcome.{zeros, scratch_bytes}
use Rattle.state.specs.Layout.{state_bytes}
use Rattle.ends.specs.Ends.{cleared}

pub not_cleared : (scratch : List ℕ) → length scratch < scratch_bytes → scratch ≡ cleared scratch
unfolding cleared
not_cleared scratch h = rw (lt-leb scratch_bytes (length scratch) h)

pub cleared_is : (scratch : List ℕ) → scratch_bytes ≤ length scratch → cleared scratch ≡ over zeros scratch
unfolding cleared
cleared_is scratch h = rw (le-leb scratch_bytes (length scratch) h)

-- the first 32,768 bytes were lent and came back cleared
pub cleared-part : (scratch part : List ℕ) → scratch_bytes ≤ length scratch → part ≡ replicate (length (take 32768 scratch)) 0 → part ++ drop 32768 scratch ≡ cleared scratch
unfolding zeros scratch_bytes over
cleared-part scratch part room e =
    let size : length (take 32768 scratch) ≡ 32768 = length-take-le 32768 scratch room in
    rw (e, size) (ap (λ (k : ℕ). replicate 32768 0 ++ drop k scratch) (sym (length-replicate {A = ℕ} 32768 0))) ∙ sym (cleared_is scratch room)

-- the state was lent before, and came back: what stands behind stays
pub cleared_anew : (scratch state : List ℕ) → scratch_bytes ≤ length scratch → length state ≡ length (take 31872 scratch) → over zeros (state ++ drop 31872 scratch) ≡ over zeros scratch
unfolding zeros scratch_bytes over
cleared_anew scratch state room e =
    let size : length state ≡ 31872 = e ∙ length-take-le 31872 scratch (omega arith) in
    ap (λ (t : List ℕ). replicate 32768 0 ++ t) (rw (length-replicate {A = ℕ} 32768 0) (ap (drop 32768) (over-back 31872 state scratch size) ∙ drop-over 32768 state scratch (omega arith)))

-- so what is cleared then is the scratch as it was lent
pub cleared_since : (scratch left end : List ℕ) → scratch_bytes ≤ length left → over zeros left ≡ over zeros scratch → end ≡ cleared left → end ≡ over zeros scratch
cleared_since scratch left end room behind e = e ∙ cleared_is left room ∙ behind

-- a whole state fits the scratch
pub has-state : (room : ℕ) → scratch_bytes ≤ room → state_bytes ≤ room
unfolding scratch_bytes state_bytes
has-state room h = omega arith
