-- Rows that a map takes to others, one to one, respecting sums and constraints: the same are kept, with the same uses, and the same picked.
-- Assumes nothing.
use mathlib.Core.Path.{◌≡◌, sym, ap, ◌∙◌}
use Prim.Native.Nat.{ℕ}
use mathlib.Core.Bool.{not}
use mathlib.Core.List.{List, map}
use Rattle.space.specs.Space.{◌⊕◌, independent}
use Rattle.space.proofs.Lists.{map_both}
use Rattle.rows.specs.Rows.{constraint}
use Rattle.reading.specs.Reading.{kept, rank, uses, picked, picked_rows, singular}
use Rattle.reading.proofs.Linear.{map-kept, map-rank, map-uses, map-picked, map-picked_rows}

pub record Moves (l : ℕ) (old new : List ℕ) : Type 0 where
  pub move : ℕ → ℕ
  pub add : (a b : ℕ) → move (a ⊕ b) ≡ move a ⊕ move b
  pub inj : (v : ℕ) → move v ≡ 0 → v ≡ 0
  pub keep : (v : ℕ) → constraint l (move v) ≡ constraint l v
  pub rows : map move old ≡ new

module _ (l : ℕ) (old new : List ℕ) (m : Moves l old new) where
  pub same_kept : kept new ≡ kept old
  same_kept = ap kept (sym m.rows) ∙ map-kept m.move m.add m.inj old

  pub same_rank : rank new ≡ rank old
  same_rank = ap rank (sym m.rows) ∙ map-rank m.move m.add m.inj old

  pub same_uses : uses new ≡ uses old
  same_uses = ap uses (sym m.rows) ∙ map-uses m.move m.add m.inj old

  pub same_constraints : map (constraint l) new ≡ map (constraint l) old
  same_constraints = ap (map (constraint l)) (sym m.rows) ∙ map_both (constraint l) m.move (constraint l) m.keep old

  module _ (n : ℕ) where
    pub same_picked : picked n new ≡ picked n old
    same_picked = ap (picked n) (sym m.rows) ∙ map-picked m.move m.add m.inj n old

    pub same_singular : singular n l new ≡ singular n l old
    unfolding singular
    same_singular =
        ap (λ (rs : List ℕ). not (independent (map (constraint l) (picked_rows n rs)))) (sym m.rows)
        ∙ ap (λ (ps : List ℕ). not (independent (map (constraint l) ps))) (map-picked_rows m.move m.add m.inj n old)
        ∙ ap (λ (cs : List ℕ). not (independent cs)) (map_both (constraint l) m.move (constraint l) m.keep (picked_rows n old))
