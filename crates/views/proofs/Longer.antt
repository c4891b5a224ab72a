-- A state with more behind it: its parts are the state's own.
-- Assumes nothing.
use mathlib.Core.Path.{◌≡◌, refl, ap, ◌∙◌}
use mathlib.Core.Bool.{Bool, true, false, cond, ◌&&◌}
use mathlib.Core.List.{List, ◌++◌}
use Prim.Native.Nat.{ℕ, ◌+◌, ◌*◌, ◌≤◌}
use native.Mathlib.Omega.{arith}
use lib.Dec.{leb}
use lib.ListN.{length, take, drop, length-append, length-drop}
use lib.Seq.{take-append-le, drop-append-le}
use borrow.Author.Tests.{le-leb, leb-true}
use Rattle.tally.specs.Tally.{most_kept}
use Rattle.state.specs.Layout.{uses_at, places_at, state_bytes, has_part, part_at, part, uses_part, places_part}
use Rattle.state.proofs.Sizes.{sizes}

module _ (state more : List ℕ) (whole : state_bytes ≤ length state) where
  part-longer : (at most n : ℕ) → at + 2 * most ≤ state_bytes → part at most n (state ++ more) ≡ part at most n state
  unfolding part part_at has_part
  part-longer at most n room =
      rw (le-leb state_bytes (length (state ++ more)) (omega (arith, length-append state more)), le-leb state_bytes (length state) whole) (go (leb n most) refl)
    where
      go : (b : Bool) → leb n most ≡ b
          → take (cond (b && true) (2 * n) 0) (drop (cond (b && true) at 0) (state ++ more)) ≡ take (cond (b && true) (2 * n) 0) (drop (cond (b && true) at 0) state)
      go true e =
          let few : n ≤ most = leb-true n most e in
          ap (take (2 * n)) (drop-append-le at state more (omega arith)) ∙ take-append-le (2 * n) (drop at state) more (omega (arith, length-drop at state))
      go false e = refl

  pub uses-longer : (n : ℕ) → uses_part n (state ++ more) ≡ uses_part n state
  uses-longer n = part-longer uses_at most_kept n (omega (arith, sizes))

  pub places-longer : (n : ℕ) → places_part n (state ++ more) ≡ places_part n state
  places-longer n = part-longer places_at 512 n (omega (arith, sizes))
