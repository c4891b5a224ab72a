-- The pass of the first w bytes of a vector of 80: as the pass of the whole vector, cut.
-- Assumes nothing.
use mathlib.Core.Path.{◌≡◌, sym}
use Prim.Native.Nat.{ℕ, ◌+◌, ◌-◌, ◌*◌, ◌≤◌}
use native.Mathlib.Omega.{arith}
use mathlib.Core.List.{List}
use Rattle.octets.specs.Octets.{number, numbers}
use Rattle.basis.specs.Algorithm2.{pass}
use Rattle.basis.proofs.Cuts.{cut, cut_pass, pass-cut}
use Rattle.entering.specs.Enter.{whole_pass}
use Rattle.page_of_slots.specs.Symbols.{slots_in}

-- the digits behind the first w of 80 bytes
abbrev pub behind : ℕ → ℕ
behind w = 8 * (80 - w)

pub pass-front : (w v : ℕ) (slots work : List ℕ) → 8 ≤ w → w ≤ 40 → cut (behind w) (number work) ≡ v
    → pass (8 * (w - 8)) (slots_in w slots) v ≡ cut_pass (behind w) (whole_pass slots work)
pass-front w v slots work least most e =
    let all : 8 * (w - 8) + behind w ≡ 576 = omega arith in
    rw (sym e) (rw all at (pass-cut (8 * (w - 8)) (behind w) (numbers 80 64 slots) (number work)))
