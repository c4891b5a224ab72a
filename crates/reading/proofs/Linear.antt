-- What a map of rows that respects sums, and takes only zero to zero, leaves as it was: kept rows, uses, picks.
-- Assumes nothing.
use mathlib.Core.Path.{◌≡◌, refl, ap, ◌∙◌}
use Prim.Native.Nat.{ℕ}
use mathlib.Core.Bool.{Bool, false, not}
use mathlib.Core.List.{List, [], ◌∷◌, ◌++◌, map}
use lib.ListN.{length, get_or, length-map}
use Rattle.space.specs.Space.{◌⊕◌, set_of}
use Rattle.space.proofs.Lists.{map-append, select-map, count_map, tabulate_ext}
use Rattle.space.proofs.Linear.{map-spans, map-set_of}
use Rattle.reading.specs.Reading.{kept_after, kept, kept_rows, other_rows, rank, uses_of, uses, picked, picked_rows}

module _ (φ : ℕ → ℕ) (add : (a b : ℕ) → φ (a ⊕ b) ≡ φ a ⊕ φ b) (inj : (v : ℕ) → φ v ≡ 0 → v ≡ 0) where
  map-kept_after : (before rows : List ℕ) → kept_after (map φ before) (map φ rows) ≡ kept_after before rows
  unfolding kept_after
  map-kept_after before [] = refl
  map-kept_after before (r ∷ rows) =
      rw (map-spans φ add inj before r) (rw (map-kept_after before rows) (rw (← map-append φ before (r ∷ [])) (rw (map-kept_after (before ++ (r ∷ [])) rows))))

  pub map-kept : (rows : List ℕ) → kept (map φ rows) ≡ kept rows
  unfolding kept
  map-kept rows = map-kept_after [] rows

  pub map-kept_rows : (rows : List ℕ) → kept_rows (map φ rows) ≡ map φ (kept_rows rows)
  unfolding kept_rows
  map-kept_rows rows = rw (map-kept rows) (select-map φ (kept rows) rows)

  map-other_rows : (rows : List ℕ) → other_rows (map φ rows) ≡ map φ (other_rows rows)
  unfolding other_rows
  map-other_rows rows = rw (map-kept rows) (select-map φ (map not (kept rows)) rows)

  pub map-rank : (rows : List ℕ) → rank (map φ rows) ≡ rank rows
  unfolding rank
  map-rank rows = ap length (map-kept_rows rows) ∙ length-map (kept_rows rows) φ

  map-uses_of : (ks others : List ℕ) → uses_of (map φ ks) (map φ others) ≡ uses_of ks others
  unfolding uses_of
  map-uses_of ks others =
      rw (length-map ks φ) (tabulate_ext (length ks) _ _ (λ j h.
      count_map (λ r. get_or (set_of (map φ ks) r) j false) (λ r. get_or (set_of ks r) j false) φ
      (λ r. ap (λ (s : List Bool). get_or s j false) (map-set_of φ add inj ks r)) others))

  pub map-uses : (rows : List ℕ) → uses (map φ rows) ≡ uses rows
  unfolding uses
  map-uses rows = rw (map-kept_rows rows) (rw (map-other_rows rows) (map-uses_of (kept_rows rows) (other_rows rows)))

  pub map-picked : (n : ℕ) (rows : List ℕ) → picked n (map φ rows) ≡ picked n rows
  unfolding picked
  map-picked n rows = rw (map-uses rows)

  pub map-picked_rows : (n : ℕ) (rows : List ℕ) → picked_rows n (map φ rows) ≡ map φ (picked_rows n rows)
  unfolding picked_rows
  map-picked_rows n rows = rw (map-picked n rows) (rw (map-kept_rows rows) (select-map φ (picked n rows) (kept_rows rows)))
