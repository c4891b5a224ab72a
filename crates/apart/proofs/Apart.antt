-- The entries of the rows that don't agree with a page: how many, their bounds, their rows, and one entry more.
-- Assumes nothing.
use mathlib.Core.Path.{◌≡◌, refl, sym, ap, ◌∙◌}
use Prim.Native.Nat.{ℕ, ◌≤◌}
use native.Mathlib.Omega.{arith}
use mathlib.Core.Bool.{Bool, true, false, cond, not}
use mathlib.Core.List.{List, [], ◌∷◌, ◌++◌, map}
use lib.ListN.{length, length-map}
use Rattle.space.specs.Lists.{Below, select}
use Rattle.space.proofs.Lists.{length-select, marked_le, map-append, select-append, select_below, select-map}
use Rattle.rows.specs.Rows.{vector, constraint, agrees}
use Rattle.apart.specs.Apart.{apart}

module _ (l : ℕ) (page entries : List ℕ) where
  abbrev mask : List Bool
  mask = map (λ e. not (agrees l page (vector l e))) entries

  pub apart-most : length (apart l page entries) ≤ length entries
  unfolding apart
  apart-most =
      let size : length mask ≡ length entries = length-map entries (λ e. not (agrees l page (vector l e))) in
      omega (arith, length-select mask entries size, marked_le mask, size)

  pub apart_below : (m : ℕ) → Below m entries → Below m (apart l page entries)
  unfolding apart
  apart_below m b = select_below m mask entries b

  -- their rows
  pub apart-rows : map (vector l) (apart l page entries) ≡ select mask (map (vector l) entries)
  unfolding apart
  apart-rows = sym (select-map (vector l) mask entries)

  pub apart-inside : (m : ℕ) → Below m (map (constraint l) (map (vector l) entries)) → Below m (map (constraint l) (map (vector l) (apart l page entries)))
  apart-inside m b = rw (apart-rows, ← select-map (constraint l) mask (map (vector l) entries)) (select_below m mask (map (constraint l) (map (vector l) entries)) b)

-- ---- one entry more

apart-one : (l : ℕ) (page : List ℕ) (e : ℕ) → apart l page (e ∷ []) ≡ cond (agrees l page (vector l e)) [] (e ∷ [])
unfolding apart select
apart-one l page e = go (agrees l page (vector l e))
  where
    go : (b : Bool) → select (not b ∷ []) (e ∷ []) ≡ cond b [] (e ∷ [])
    go true = refl
    go false = refl

pub apart_snoc : (l : ℕ) (page entries : List ℕ) (e : ℕ) → apart l page (entries ++ (e ∷ [])) ≡ apart l page entries ++ cond (agrees l page (vector l e)) [] (e ∷ [])
apart_snoc l page entries e = both_parts ∙ ap (λ t. apart l page entries ++ t) (apart-one l page e)
  where
    both_parts : apart l page (entries ++ (e ∷ [])) ≡ apart l page entries ++ apart l page (e ∷ [])
    both_parts =
        unfold apart in rw (map-append (λ x. not (agrees l page (vector l x))) entries (e ∷ []))
        (select-append (map (λ x. not (agrees l page (vector l x))) entries) _ entries (e ∷ []) (length-map entries (λ x. not (agrees l page (vector l x)))))
