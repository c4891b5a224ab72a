-- When a line is bad, and what the answer of `unhex` tells.
-- Assumes nothing.
use mathlib.Core.Path.{◌≡◌, refl, sym, ◌∙◌}
use Prim.Native.Nat.{ℕ, ◌/◌, ◌%◌, ◌≤◌}
use native.Mathlib.Omega.{arith}
use mathlib.Core.Bool.{Bool, true, false, cond, not, ◌||◌, true≢false}
use mathlib.Core.List.{List}
use lib.Dec.{eqb, ltb}
use lib.ListN.{length, take}
use borrow.Author.Tests.{eq-eqb, le-ltb, eqb-true, ltb-false}
use Rattle.octets.specs.Octets.{over}
use Rattle.octets.proofs.Runs.{take-over}
use Rattle.std.proofs.Common.{Ok, Err}
use Rattle.text.specs.declared.Refusal.TheVariants.{Bad, Room}
use Rattle.text.specs.Hex.{all_digits, pairs, most_characters, bad, unhexed, unhexed_bytes, unhexed_frame}
use Rattle.text.proofs.Digits.{length_pairs}

-- ---- a bad line

module _ (line : List ℕ) where
  -- the digits decide
  pub bad-digits : length line % 2 ≡ 0 → length line ≤ 256 → bad line ≡ not (all_digits line)
  unfolding bad most_characters
  bad-digits e h = rw (eq-eqb (length line % 2) 0 e, le-ltb 256 (length line) h)

  -- what a line that isn't bad is
  pub good : bad line ≡ false → (length line % 2 ≡ 0) × (length line ≤ 256) × (all_digits line ≡ true)
  unfolding bad most_characters
  good e = go (eqb (length line % 2) 0) refl (ltb 256 (length line)) refl (all_digits line) refl e
    where
      go : (p : Bool) → eqb (length line % 2) 0 ≡ p → (q : Bool) → ltb 256 (length line) ≡ q → (r : Bool) → all_digits line ≡ r
          → (not p || q) || not r ≡ false → (length line % 2 ≡ 0) × (length line ≤ 256) × (all_digits line ≡ true)
      go false e q f r g h = absurd (true≢false h)
      go true e true f r g h = absurd (true≢false h)
      go true e false f false g h = absurd (true≢false h)
      go true e false f true g h = (eqb-true (length line % 2) 0 e, ltb-false 256 (length line) f, g)

-- ---- the answer, and the frame at exit, of a good line that has room

module _ (line frame : List ℕ) where
  pub unhex_bytes : bad line ≡ false → length line / 2 ≤ length frame
      → (Ok (length line / 2) ≡ unhexed line (length frame)) × (over (pairs line) frame ≡ unhexed_frame line frame)
  unfolding unhexed unhexed_frame unhexed_bytes
  unhex_bytes e h = rw (e, le-ltb (length frame) (length line / 2) h) (refl, refl)

-- ---- what the answer tells

module _ (line frame : List ℕ) where
  -- so many bytes: the line is good, and they stand in the frame
  pub bytes-told : (k : ℕ) → unhexed line (length frame) ≡ Ok k
      → (bad line ≡ false) × (k ≤ length frame) × (take k (unhexed_frame line frame) ≡ pairs line)
  unfolding unhexed
  bytes-told k e = go (bad line) refl (ltb (length frame) (length line / 2)) refl e
    where
      go : (b : Bool) → bad line ≡ b → (r : Bool) → ltb (length frame) (length line / 2) ≡ r
          → cond b (Err Bad) (cond r (Err Room) (Ok (length line / 2))) ≡ Ok k
          → (bad line ≡ false) × (k ≤ length frame) × (take k (unhexed_frame line frame) ≡ pairs line)
      go true f r g h = absurd (cc)
      go false f true g h = absurd (cc)
      go false f false g h =
          let half : length line / 2 ≡ k = cc in
          let fits : length line / 2 ≤ length frame = ltb-false (length frame) (length line / 2) g in
          (f, omega arith, rw (← (unhex_bytes line frame f fits).1) (take-over (pairs line) frame k (length_pairs line ∙ half)))

  -- no bytes, where there is room for any line: the line is bad
  pub none_told : 128 ≤ length frame → ((k : ℕ) → unhexed line (length frame) ≡ Ok k → ⊥) → bad line ≡ true
  none_told room none = go (bad line) refl
    where
      go : (b : Bool) → bad line ≡ b → b ≡ true
      go true f = refl
      go false f =
          let short : length line ≤ 256 = (good line f).1 in
          absurd (none (length line / 2) (sym (unhex_bytes line frame f (omega arith)).0))
