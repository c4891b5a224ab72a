-- The rows with role 2 in cleared slots: all go in exactly where their constraints are independent, and then the slots give their page.
-- Assumes nothing.
use mathlib.Core.Path.{◌≡◌, refl, sym, ap, ap₂, ◌∙◌}
use Prim.Native.Nat.{ℕ, zero, suc, ◌+◌, ◌*◌, ◌^◌, ◌≤◌, ◌<◌}
use native.Mathlib.Nat.{div-eq_of_lt}
use native.Mathlib.Omega.{arith}
use mathlib.Core.Bool.{Bool, true, false, cond}
use mathlib.Core.List.{List, [], ◌∷◌, map}
use lib.ListN.{length, replicate, length-replicate}
use lib.Pow.{pow_pos, pow_mono}
use borrow.Author.Tests.{eq-eqb, le-leb}
use Rattle.space.specs.Lists.{Below}
use Rattle.space.specs.Space.{independent}
use Rattle.space.proofs.Lists.{below_more}
use Rattle.octets.specs.Octets.{bytes, numbers, flat, over}
use Rattle.octets.proofs.Loaded.{numbers-zeros}
use Rattle.rows.specs.Rows.{row_count, rows_of, constraint}
use Rattle.rows.specs.Range.{InRange}
use Rattle.rows.proofs.Shape.{shape_range}
use Rattle.rows.proofs.Sums.{rows_lt}
use Rattle.reading.specs.Reading.{page_of}
use Rattle.basis.proofs.Cuts.{cut}
use Rattle.chosen.specs.Chosen.{chosen}
use Rattle.chosen.proofs.Within.{Proper}
use Rattle.entering.specs.Enter.{slot_bytes, enter_answer, enter_slots}
use Rattle.entering.proofs.Slots.{slot-bytes}
use Rattle.filling.specs.Fill.{Filled, leaves, fill_rows, rows_bytes, fillable, fill_of}
use Rattle.page_of_slots.specs.Symbols.{slots_in, page_in, writable, page_after}
use Rattle.page_of_slots.proofs.Fronts.{behind}
use Rattle.filled.specs.Model.{fill, empty}
use Rattle.filled.proofs.Filling.{Solving, fill-empty}
use Rattle.filled.proofs.Pages.{page_right}
use Rattle.filled.proofs.Stored.{Slots, enter_enters, enter_slots_lem, enter_entered}

-- ---- rows in bytes go in as the model has it for their numbers

-- the slots as the model has them, and that they are slots still
record Views (l : ℕ) (f m : Filled) : Type 0 where
  views : leaves (slots_in (8 + l) f.slots) f.all ≡ m
  slots : Slots f.slots

fill_views : (l : ℕ) → l ≤ 32 → (rows : List ℕ) → Below (2 ^ (8 * (8 + l))) rows → (slots : List ℕ) → Slots slots
    → Views l (fill_rows slots (rows_bytes l rows)) (fill l (slots_in (8 + l) slots) rows)
unfolding fill_rows fill
fill_views l most [] b slots S = record { views = refl; slots = S }
fill_views l most (row ∷ rows) b slots S =
    rw (← enter_enters l most slots S row b.0, ← enter_entered l most slots S row b.0)
    (go (enter_answer slots (bytes (8 + l) row)) (fill_views l most rows b.1 (enter_slots slots (bytes (8 + l) row)) (enter_slots_lem l most slots S row b.0)))
  where
    after : List ℕ
    after = enter_slots slots (bytes (8 + l) row)

    go : (c : Bool) → Views l (fill_rows after (rows_bytes l rows)) (fill l (slots_in (8 + l) after) rows)
        → Views l (cond c (fill_rows after (rows_bytes l rows)) (leaves slots false)) (cond c (fill l (slots_in (8 + l) after) rows) (leaves (slots_in (8 + l) slots) false))
    go true more = more
    go false more = record { views = refl; slots = S }

-- ---- cleared slots are empty

cut_none : (s n : ℕ) → map (cut s) (replicate n 0) ≡ replicate n 0
cut_none s zero = refl
cut_none s (suc n) = ap₂ (λ (x : ℕ) (t : List ℕ). x ∷ t) (div-eq_of_lt (pow_pos s)) (cut_none s n)

below_none : (m n : ℕ) → 0 < m → Below m (replicate n 0)
below_none m zero h = tt
below_none m (suc n) h = (h, below_none m n h)

abbrev pub cleared : List ℕ
cleared = replicate slot_bytes 0

none : numbers 80 64 cleared ≡ replicate 64 0
none = numbers-zeros 80 64 slot_bytes (omega (arith, slot-bytes))

cleared-empty : (w : ℕ) → slots_in w cleared ≡ empty
unfolding empty
cleared-empty w = ap (map (cut (behind w))) none ∙ cut_none (behind w) 64

cleared-slots : Slots cleared
cleared-slots = record { long = length-replicate {A = ℕ} slot_bytes 0; small = rw none (below_none (2 ^ 640) 64 (pow_pos 640)) }

-- ---- what they tell

module _ (n l : ℕ) (list roles : List ℕ) (P : Proper n l list roles) where
  abbrev ps : List ℕ
  ps = chosen roles (rows_of l list)

  range : InRange n l
  range = shape_range n l P.shaped

  abbrev told : Filled
  told = fill_of l list roles cleared

  low : Below (2 ^ (8 * l + 64)) ps
  low = let wide : n + 8 * l ≤ 8 * l + 64 = omega (arith, range.n_high) in below_more (2 ^ (n + 8 * l)) (2 ^ (8 * l + 64)) (pow_mono wide) ps (rows_lt n l ps P.inside)

  views : Views l told (fill l empty ps)
  unfolding fill_of fillable
  views =
      let wide : 8 * l + 64 ≡ 8 * (8 + l) = omega arith in
      rw P.rows_whole (rw (le-leb (row_count l list) (length roles) P.known)
      (rw (cleared-empty (8 + l)) at (fill_views l range.l_high ps (rw wide at low) cleared cleared-slots)))

  solving : Solving l ps (fill l empty ps)
  solving = fill-empty l ps low

  -- all go in exactly where their constraints are independent
  pub told_exactly : told.all ≡ independent (map (constraint l) ps)
  told_exactly = ap (λ (f : Filled). f.all) views.views ∙ solving.all

  pub told-long : length told.slots ≡ slot_bytes
  told-long = views.slots.long

  -- and then the slots give their page
  pub told-page : told.all ≡ true → (page : List ℕ) → n * l ≤ length page → page_after n l told.slots page ≡ over (flat l (page_of n l ps)) page
  unfolding page_after writable
  told-page e page room =
      let free : independent (map (constraint l) ps) ≡ true = sym told_exactly ∙ e in
      let right : page_in n l (slots_in (8 + l) told.slots) ≡ page_of n l ps =
      ap (λ (f : Filled). page_in n l f.slots) views.views ∙ page_right n l ps (fill l empty ps).slots (solving.stand (solving.all ∙ free)) free P.inside P.size in
      rw P.shaped (rw (eq-eqb (length told.slots) slot_bytes told-long) (rw (le-leb (n * l) (length page) room) (rw right)))
