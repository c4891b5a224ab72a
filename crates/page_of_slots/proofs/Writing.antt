-- Symbols written one after the other over the first bytes of a page: what the loop of `symbols` holds, and one symbol more.
-- Assumes nothing.
use mathlib.Core.Path.{◌≡◌, refl, sym, ap, ◌∙◌}
use Prim.Native.Nat.{ℕ, suc, ◌+◌, ◌-◌, ◌*◌, ◌≤◌, ◌<◌}
use native.Mathlib.Numerals.{add-one}
use native.Mathlib.Omega.{arith}
use mathlib.Core.List.{List, ◌++◌}
use lib.ListN.{length, take, drop}
use Rattle.space.specs.Lists.{tabulate}
use Rattle.space.proofs.Lists.{tabulate-snoc, length-tabulate}
use Rattle.octets.specs.Octets.{bytes, flat, over, lay}
use Rattle.octets.proofs.Numbers.{length-bytes}
use Rattle.octets.proofs.Runs.{flat-snoc, length-flat, over_none}
use Rattle.octets.proofs.Lay.{lay-over, length-lay}
use Rattle.octets.proofs.Views.{part_room, length_part}

-- n symbols of l bytes are being written: the first k of them stand there
pub record Writing (n l : ℕ) (f : ℕ → ℕ) (old now : List ℕ) (k : ℕ) : Type 0 where
  pub within : k ≤ n
  pub long : length now ≡ length old
  pub holds : now ≡ over (flat l (tabulate k f)) old

pub writing_start : (n l : ℕ) (f : ℕ → ℕ) (old : List ℕ) → Writing n l f old old 0
unfolding tabulate flat
writing_start n l f old = record { within = omega arith; long = refl; holds = sym (over_none old) }

module _ (n l : ℕ) (f : ℕ → ℕ) (old now : List ℕ) (k : ℕ) (room : n * l ≤ length old) (W : Writing n l f old now k) where
  pub writing_end : n ≤ k → now ≡ over (flat l (tabulate n f)) old
  writing_end h = let e : k ≡ n = omega (arith, W.within) in rw e at W.holds

  module _ (h : k < n) where
    -- where it begins
    abbrev at : ℕ
    at = k * l

    pub writing_room : at + l ≤ length now
    writing_room = omega (arith, W.long, part_room l n k old room h)

    pub writing_part : length (take (at + l - at) (drop at now)) ≡ l
    writing_part = let wide : at + l - at ≡ l = omega arith in rw wide (length_part l at now writing_room)

    written : flat l (tabulate k f) ++ bytes l (f k) ≡ flat l (tabulate (suc k) f)
    written = sym (ap (flat l) (tabulate-snoc k f) ∙ flat-snoc l (tabulate k f) (f k))

    size : length (flat l (tabulate k f)) ≡ at
    size = length-flat l (tabulate k f) ∙ ap (λ (j : ℕ). j * l) (length-tabulate k f)

    pub writing_more : (new : List ℕ) → new ≡ bytes l (f k) → Writing n l f old (take at now ++ (new ++ drop (at + l - at) (drop at now))) (k + 1)
    unfolding lay
    writing_more new e = record {
      within = omega arith;
      long = ap length laid ∙ length-lay at new now (rw (ap length e ∙ length-bytes l (f k)) writing_room) ∙ W.long;
      holds = laid ∙ rw (W.holds, e) (lay-over at (flat l (tabulate k f)) (bytes l (f k)) old size ∙ ap (λ t. over t old) written ∙ rw (← add-one k));
    }
      where
        laid : take at now ++ (new ++ drop (at + l - at) (drop at now)) ≡ lay at new now
        laid = let wide : at + l - at ≡ length new = omega (arith, ap length e, length-bytes l (f k)) in rw wide
