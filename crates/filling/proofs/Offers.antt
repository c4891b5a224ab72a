-- Rows that go in one after the other: the first decide of those behind them, and one row alone goes in or does not; what the loop holds.
-- Assumes nothing.
use mathlib.Core.Path.{◌≡◌, refl, sym, ap, ◌∙◌}
use Prim.Native.Nat.{ℕ, ◌+◌, ◌-◌, ◌≤◌, ◌<◌}
use native.Mathlib.Omega.{arith}
use mathlib.Core.Bool.{Bool, true, false, cond, ◌&&◌}
use mathlib.Core.List.{List, [], ◌∷◌, ◌++◌}
use lib.Dec.{eqb}
use lib.ListN.{length, drop, get_or}
use Rattle.space.proofs.Lists.{map-append}
use Rattle.space.specs.Lists.{Below}
use Rattle.octets.specs.Octets.{number, bytes}
use Rattle.octets.proofs.Numbers.{bytes-number}
use Rattle.rows.specs.Rows.{row_bytes, row_count, rows_of}
use Rattle.rows.proofs.Lists.{length-rows_of}
use Rattle.chosen.specs.Chosen.{chosen}
use Rattle.chosen.proofs.Choosing.{chosen-one, chosen-other, chosen-next, chosen_past}
use Rattle.entering.specs.Enter.{slot_bytes, whole_pass, stored, goes_in, slots_with, vector_of, enter_answer, enter_slots}
use Rattle.filling.specs.Fill.{Filled, leaves, fill_rows, rows_bytes}

-- where the first went in, the rest goes on from there; else nothing more goes in
fill-append : (rows more : List (List ℕ)) (slots : List ℕ) → fill_rows slots (rows ++ more) ≡ cond (fill_rows slots rows).all (fill_rows (fill_rows slots rows).slots more) (fill_rows slots rows)
unfolding fill_rows
fill-append [] more slots = refl
fill-append (row ∷ rows) more slots = go (enter_answer slots row) (fill-append rows more (enter_slots slots row))
  where
    next : Filled
    next = fill_rows (enter_slots slots row) rows

    go : (b : Bool) → fill_rows (enter_slots slots row) (rows ++ more) ≡ cond next.all (fill_rows next.slots more) next
        → cond b (fill_rows (enter_slots slots row) (rows ++ more)) (leaves slots false) ≡ cond (cond b next (leaves slots false)).all (fill_rows (cond b next (leaves slots false)).slots more) (cond b next (leaves slots false))
    go true ih = ih
    go false ih = refl

-- ---- one row alone

enter_not : (slots row : List ℕ) → enter_answer slots row ≡ false → enter_slots slots row ≡ slots
unfolding enter_answer enter_slots slots_with
enter_not slots row e = go (eqb (length slots) slot_bytes) (goes_in slots (vector_of row)) (stored (whole_pass slots (vector_of row)).stop (bytes 80 (whole_pass slots (vector_of row)).vector) slots) e
  where
    go : (a b : Bool) (new : List ℕ) → (a && b) ≡ false → cond a (cond b new slots) slots ≡ slots
    go true true new e = let z : ◌≡◌ {A = ℕ} 0 1 = cc in absurd (omega arith)
    go true false new e = refl
    go false b new e = refl

fill_one : (slots row : List ℕ) → leaves (enter_slots slots row) (enter_answer slots row) ≡ fill_rows slots (row ∷ [])
unfolding fill_rows
fill_one slots row = go (enter_answer slots row) refl
  where
    go : (b : Bool) → enter_answer slots row ≡ b → leaves (enter_slots slots row) b ≡ cond b (leaves (enter_slots slots row) true) (leaves slots false)
    go true p = refl
    go false p = rw (enter_not slots row p)

module _ (slots row : List ℕ) (role : ℕ) where
  abbrev offered : Filled
  offered = fill_rows slots (rows_bytes (length row - 8) (chosen (role ∷ []) (number row ∷ [])))

  pub offer_in : 8 ≤ length row → Below 256 row → role ≡ 2 → leaves (enter_slots slots row) (enter_answer slots row) ≡ offered
  offer_in long b e =
      let wide : 8 + (length row - 8) ≡ length row = omega arith in
      fill_one slots row ∙ rw (chosen-one role (number row) e, wide, bytes-number row b)

  pub offer_by : (role ≡ 2 → ⊥) → leaves slots true ≡ offered
  unfolding fill_rows
  offer_by e = rw (chosen-other role (number row) e)

-- ---- the rows of a list: at row i those from there on fill the slots as all of them do

pub record Offering (l : ℕ) (list roles slots₀ slots : List ℕ) (i : ℕ) : Type 0 where
  pub within : i ≤ row_count l list
  pub long : length slots ≡ length slots₀
  pub rest : fill_rows slots (rows_bytes l (chosen (drop i roles) (drop i (rows_of l list)))) ≡ fill_rows slots₀ (rows_bytes l (chosen roles (rows_of l list)))

pub offering-start : (l : ℕ) (list roles slots : List ℕ) → Offering l list roles slots slots 0
offering-start l list roles slots = record { within = omega arith; long = refl; rest = refl }

module _ (l : ℕ) (list roles slots₀ slots : List ℕ) (i : ℕ) (O : Offering l list roles slots₀ slots i) where
  abbrev whole : Filled
  whole = fill_rows slots₀ (rows_bytes l (chosen roles (rows_of l list)))

  -- past the last row
  pub offering_end : row_count l list ≤ i → leaves slots true ≡ whole
  unfolding fill_rows
  offering_end h = rw (chosen_past roles (rows_of l list) i (rw (length-rows_of l list) h)) at O.rest

  -- one row more
  module _ (known : row_count l list ≤ length roles) (h : i < row_count l list) (b : Bool) (after : List ℕ)
      (F : leaves after b ≡ fill_rows slots (rows_bytes l (chosen (get_or roles i 0 ∷ []) (get_or (rows_of l list) i 0 ∷ [])))) where
    abbrev one : List ℕ
    one = chosen (get_or roles i 0 ∷ []) (get_or (rows_of l list) i 0 ∷ [])

    abbrev more : List ℕ
    more = chosen (drop (i + 1) roles) (drop (i + 1) (rows_of l list))

    turn : cond b (fill_rows after (rows_bytes l more)) (leaves after b) ≡ whole
    turn =
        let parts : rows_bytes l (chosen (drop i roles) (drop i (rows_of l list))) ≡ rows_bytes l one ++ rows_bytes l more =
        ap (rows_bytes l) (chosen-next roles (rows_of l list) i (omega arith) (rw (length-rows_of l list) h)) ∙ map-append (bytes (row_bytes l)) one more in
        ap (λ (f : Filled). cond f.all (fill_rows f.slots (rows_bytes l more)) f) F ∙ sym (ap (fill_rows slots) parts ∙ fill-append (rows_bytes l one) (rows_bytes l more) slots) ∙ O.rest

    pub offering-more : b ≡ true → length after ≡ length slots → Offering l list roles slots₀ after (i + 1)
    offering-more e size = record { within = omega arith; long = size ∙ O.long; rest = rw e at turn }

    pub offering-stop : b ≡ false → leaves after false ≡ whole
    offering-stop e = rw e at turn
