-- A second page added to each entry of a list: an order that goes by constraints stays, each row taken has the second page added, and the marks by
-- arrival number stay.
-- Assumes nothing.
use mathlib.Core.Path.{◌≡◌, sym, ap, ◌∙◌}
use Prim.Native.Nat.{ℕ, ◌*◌, ◌^◌}
use mathlib.Core.Bool.{Bool}
use mathlib.Core.List.{List, map}
use lib.ListN.{get_or, length-map, get_or-map}
use Rattle.space.specs.Lists.{Below}
use Rattle.space.proofs.Lists.{map_both}
use Rattle.space.proofs.Xor.{⊕_zero}
use Rattle.space.proofs.SumBy.{sum_by_zero}
use Rattle.rows.specs.Rows.{vector, constraint}
use Rattle.rows.specs.Shift.{shifted, shifted_entry}
use Rattle.rows.proofs.Shifts.{shifted-⊕, shifted_inj, shifted-constraint, shifted-entry}
use Rattle.reading.specs.Reading.{kept}
use Rattle.reading.specs.Orders.{in_list_order, taken, ByConstraints}
use Rattle.reading.specs.Marks.{kept_arrivals, uses_marks, roles_marks}
use Rattle.reading.proofs.Linear.{map-kept, map-uses, map-picked}
use Rattle.reading.proofs.Counted.{length-counts, counts-shifted}
use Rattle.demands.proofs.Taken.{constraint_none}

pub listed_by_constraints : (l : ℕ) → ByConstraints l in_list_order
unfolding in_list_order
listed_by_constraints l ds es f c = rw (f, ← length-counts ds, f, length-counts es)

module _ (l : ℕ) (q : List ℕ) (b : Below (2 ^ (8 * l)) q) (entries : List ℕ) where
  abbrev moved : List ℕ
  moved = map (shifted_entry l q) entries

  pub shifted-order : (order : List ℕ → List ℕ) → ByConstraints l order → order (map (shifted_entry l q) entries) ≡ order entries
  shifted-order order by = by moved entries (counts-shifted l q b entries) (map_both (λ e. constraint l (vector l e)) (shifted_entry l q) (λ e. constraint l (vector l e)) same entries)
    where
      same : (e : ℕ) → constraint l (vector l (shifted_entry l q e)) ≡ constraint l (vector l e)
      same e = ap (constraint l) (shifted-entry l q b e) ∙ shifted-constraint l q b (vector l e)

  pub shifted-taken : (order : List ℕ) → taken l (map (shifted_entry l q) entries) order ≡ map (shifted l q) (taken l entries order)
  unfolding taken
  shifted-taken order =
      sym (map_both (shifted l q) (λ a. vector l (get_or entries a 0)) (λ a. vector l (get_or moved a 0)) (λ a. sym (ap (vector l) (entry a) ∙ shifted-entry l q b (get_or entries a 0))) order)
    where
      none : shifted_entry l q 0 ≡ 0
      none = unfold shifted_entry in rw (constraint_none l, sum_by_zero q) (⊕_zero 0)

      entry : (a : ℕ) → get_or moved a 0 ≡ shifted_entry l q (get_or entries a 0)
      entry a = ap (get_or moved a) (sym none) ∙ get_or-map (shifted_entry l q) entries a 0

  module _ (order : List ℕ) where
    kept-moved : kept (taken l moved order) ≡ kept (taken l entries order)
    kept-moved = rw (shifted-taken order) (map-kept (shifted l q) (shifted-⊕ l q) (shifted_inj l q b) (taken l entries order))

    pub uses-moved : uses_marks l (map (shifted_entry l q) entries) order ≡ uses_marks l entries order
    unfolding uses_marks kept_arrivals
    uses-moved = rw (kept-moved, shifted-taken order, map-uses (shifted l q) (shifted-⊕ l q) (shifted_inj l q b) (taken l entries order), length-map entries (shifted_entry l q))

    pub roles-moved : (role : Bool → ℕ) (n : ℕ) → roles_marks role n l (map (shifted_entry l q) entries) order ≡ roles_marks role n l entries order
    unfolding roles_marks kept_arrivals
    roles-moved role n = rw (kept-moved, shifted-taken order, map-picked (shifted l q) (shifted-⊕ l q) (shifted_inj l q b) n (taken l entries order), length-map entries (shifted_entry l q))
