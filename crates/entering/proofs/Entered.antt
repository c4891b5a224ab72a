-- A vector that goes into slots, by where its pass stopped.
-- Assumes nothing.
use mathlib.Core.Path.{◌≡◌, refl, ap, ◌∙◌}
use Prim.Native.Nat.{ℕ, ◌≤◌, ◌<◌}
use mathlib.Core.Bool.{true, false}
use mathlib.Core.List.{List}
use borrow.Author.Tests.{lt-ltb, le-ltb}
use Rattle.octets.specs.Octets.{bytes}
use Rattle.entering.specs.Enter.{whole_pass, stored, goes_in, slots_with}

module _ (slots vector : List ℕ) where
  pub in_stopped : (t : ℕ) → ((whole_pass slots vector).stop ≡ t) × (t < 64) → (left after : List ℕ) → left ≡ bytes 80 (whole_pass slots vector).vector
      → after ≡ stored t left slots → (true ≡ goes_in slots vector) × (after ≡ slots_with slots vector)
  unfolding goes_in slots_with
  in_stopped t at left after l e = rw at.0 (rw (lt-ltb t 64 at.1) (refl, e ∙ ap (λ (v : List ℕ). stored t v slots) l))

  pub in_spent : 64 ≤ (whole_pass slots vector).stop → (false ≡ goes_in slots vector) × (slots ≡ slots_with slots vector)
  unfolding goes_in slots_with
  in_spent h = rw (le-ltb (whole_pass slots vector).stop 64 h) (refl, refl)
