-- The checks as the code makes them, of lengths and then of rows, are the definition's.
-- Assumes nothing.
use mathlib.Core.Path.{◌≡◌, refl, sym, ap, ◌∙◌}
use Prim.Native.Nat.{ℕ, ◌*◌, ◌/◌, ◌≤◌}
use mathlib.Core.Bool.{Bool, true, false, cond, not, true≢false}
use mathlib.Core.List.{List}
use Rattle.std.specs.Prelude.{Result, Ok, Err}
use lib.ListN.{length}
use Rattle.rows.specs.Rows.{shape, list_row_bytes, row_count, rows_of}
use Rattle.reading.specs.declared.Answer.TheVariants as answer
use Rattle.reading.specs.Outcome.{Lent, refuses, stray_from, checks, whole_length, room_for}
use Rattle.gate.specs.declared.Refusal.{Refusal}
use Rattle.gate.specs.declared.Refusal.TheVariants as refusals
use Rattle.gate.specs.Gate.{gate}
use Rattle.strays.specs.Strays.{strays_in}
use Rattle.checks.specs.Checks.{through, all_checks}
use Rattle.reading.proofs.Checks.{most-512}
use Rattle.strays.proofs.Straying.{strays_listed}

module _ (n l : ℕ) (list : List ℕ) (lent : Lent) where
  abbrev gate_of : Result (Unit {0}) Refusal
  gate_of = gate n l (length list) (length lent.page) (length lent.uses) (length lent.roles) (length lent.scratch)

  -- past the gate there are 512 rows at most
  open_few : Ok tt ≡ gate_of → row_count l list ≤ 512
  unfolding gate
  open_few e = most-512 l list (go (shape n l) (whole_length l (length list)) (room_for (n * l) (length list / list_row_bytes l) (length lent.page) (length lent.uses) (length lent.roles) (length lent.scratch)) (ap is_open e))
    where
      is_open : Result (Unit {0}) Refusal → Bool
      is_open (Ok _) = true
      is_open (Err _) = false

      go : (s w r : Bool) → true ≡ is_open (cond (not s) (Err refusals.Shape) (cond (not w) (Err refusals.List) (cond (not r) (Err refusals.Room) (Ok tt)))) → w ≡ true
      go s true r p = refl
      go true false r p = absurd (true≢false p)
      go false false r p = absurd (true≢false p)

  -- what the code asks is what the definition asks
  in_order : checks n l list lent ≡ through gate_of (stray_from n l 0 (rows_of l list))
  unfolding checks gate whole_length room_for row_count through
  in_order = go (shape n l) (whole_length l (length list)) (room_for (n * l) (length list / list_row_bytes l) (length lent.page) (length lent.uses) (length lent.roles) (length lent.scratch))
    where
      go : (s w r : Bool) → cond (not s) (refuses answer.Shape) (cond (not w) (refuses answer.List) (cond (not r) (refuses answer.Room) (stray_from n l 0 (rows_of l list))))
          ≡ through (cond (not s) (Err refusals.Shape) (cond (not w) (Err refusals.List) (cond (not r) (Err refusals.Room) (Ok tt)))) (stray_from n l 0 (rows_of l list))
      go false w r = refl
      go true false r = refl
      go true true false = refl
      go true true true = refl

  pub checks_are : all_checks n l list (length lent.page) (length lent.uses) (length lent.roles) (length lent.scratch) ≡ checks n l list lent
  unfolding all_checks through
  checks_are = by_gate gate_of refl ∙ sym in_order
    where
      by_gate : (g : Result (Unit {0}) Refusal) → g ≡ gate_of → through g (strays_in n l list) ≡ through g (stray_from n l 0 (rows_of l list))
      by_gate (Ok tt) e = strays_listed n l list (open_few e)
      by_gate (Err refusal) e = refl
