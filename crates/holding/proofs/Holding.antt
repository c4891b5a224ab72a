-- A state that holds what an order takes holds one arrival more after `absorb`: its row is kept where no kept rows sum to it, and counted else.
-- Assumes nothing.
use mathlib.Core.Path.{◌≡◌, refl, sym, ap, ◌∙◌}
use mathlib.Core.Bool.{Bool, true, false, cond, not}
use mathlib.Core.List.{List, [], ◌∷◌, ◌++◌}
use Prim.Native.Nat.{ℕ}
use borrow.Author.Tests.{ltb-false}
use Rattle.space.specs.Space.{spans}
use Rattle.rows.specs.Rows.{row_bytes}
use Rattle.reading.specs.Reading.{kept_rows, rank}
use Rattle.keeping.specs.Keeping.{kept_state}
use Rattle.counting.specs.Counting.{counted_state}
use Rattle.absorb.specs.declared.Absorbed.TheVariants.{Kept, Other}
use Rattle.absorb.specs.Absorbing.{Absorption, absorbed_as, absorption}
use Rattle.holding.specs.Holds.{Holds, Offer}
use Rattle.absorb.proofs.Absorbing.{taken-other, taken-kept}
use Rattle.holding.proofs.Offers.{key, rows, row, p, test, outcome}
use Rattle.holding.proofs.OtherHolds.{tail, other-holds}
use Rattle.holding.proofs.KeptHolds.{stops, place_left, vector, kept-holds}

module _ {l : ℕ} {entries order : List ℕ} {arrival : ℕ} {state : List ℕ} (O : Offer l entries order arrival state) where
  abbrev after : Absorption
  after = absorption (row_bytes l) (row O) arrival (rank (rows O)) state

  as_other : (e : spans (kept_rows (rows O)) (row O) ≡ true) → absorbed_as Other (counted_state (tail O e) arrival (rank (rows O)) state) ≡ after
  as_other e = sym (taken-other (key O) (p O) arrival (rank (rows O)) state (ltb-false _ _ (test O ∙ ap not e))) ∙ outcome O

  as_kept : (e : spans (kept_rows (rows O)) (row O) ≡ false) → absorbed_as Kept (kept_state (p O).stop (vector O e) arrival (rank (rows O)) state) ≡ after
  as_kept e = sym (taken-kept (key O) (p O) arrival (rank (rows O)) state (stops O e) (place_left O e)) ∙ outcome O

  -- the answer tells whether kept rows sum to the row
  pub absorbed_answer : after.answer ≡ cond (spans (kept_rows (rows O)) (row O)) Other Kept
  absorbed_answer = go (spans (kept_rows (rows O)) (row O)) refl
    where
      go : (b : Bool) → spans (kept_rows (rows O)) (row O) ≡ b → after.answer ≡ cond b Other Kept
      go true e = sym (ap (λ (a : Absorption). a.answer) (as_other e))
      go false e = sym (ap (λ (a : Absorption). a.answer) (as_kept e))

  pub absorbed_holds : Holds l entries (order ++ (arrival ∷ [])) after.state
  absorbed_holds = go (spans (kept_rows (rows O)) (row O)) refl
    where
      go : (b : Bool) → spans (kept_rows (rows O)) (row O) ≡ b → Holds l entries (order ++ (arrival ∷ [])) after.state
      go true e = rw (← as_other e) (other-holds O e)
      go false e = rw (← as_kept e) (kept-holds O e)
