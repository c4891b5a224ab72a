-- What it is for a list to have n rows with role 2 of which none strays, by its parts; either way.
-- Assumes nothing.
use mathlib.Core.Path.{◌≡◌, refl}
use Prim.Native.Nat.{ℕ, suc, ◌^◌, ◌≤◌}
use native.Mathlib.Omega.{arith}
use mathlib.Core.Bool.{Bool, true, false, cond, ◌&&◌}
use mathlib.Core.List.{List, [], ◌∷◌, map}
use lib.Dec.{eqb, leb}
use lib.ListN.{length}
use borrow.Author.Tests.{eqb-true, eq-eqb, leb-true, leb-false, le-leb, lt-leb}
use Rattle.space.specs.Lists.{Below, count}
use Rattle.space.proofs.Both.{both}
use Rattle.rows.specs.Rows.{shape, row_count, rows_of, constraint}
use Rattle.rows.specs.Bytes.{stray}
use Rattle.reading.specs.Outcome.{whole_rows}
use Rattle.chosen.specs.Chosen.{chosen, listed, within, enough, proper}

-- ---- none strays

none_stray : (n l : ℕ) (rows : List ℕ) → count (λ row. stray n (constraint l row)) rows ≡ 0 → Below (2 ^ n) (map (constraint l) rows)
unfolding count stray
none_stray n l [] e = tt
none_stray n l (row ∷ rows) e = go (leb (2 ^ n) (constraint l row)) refl e (none_stray n l rows)
  where
    strays : ℕ
    strays = count (λ row. leb (2 ^ n) (constraint l row)) rows

    go : (b : Bool) → leb (2 ^ n) (constraint l row) ≡ b → cond b (suc strays) strays ≡ 0
        → (strays ≡ 0 → Below (2 ^ n) (map (constraint l) rows)) → Below (2 ^ n) (map (constraint l) (row ∷ rows))
    go true p q more = absurd (omega arith)
    go false p q more = (omega (arith, leb-false (2 ^ n) (constraint l row) p), more q)

stray_none : (n l : ℕ) (rows : List ℕ) → Below (2 ^ n) (map (constraint l) rows) → count (λ row. stray n (constraint l row)) rows ≡ 0
unfolding count stray
stray_none n l [] b = refl
stray_none n l (row ∷ rows) b = rw (lt-leb (2 ^ n) (constraint l row) b.0) (stray_none n l rows b.1)

-- ---- all of it

pub record Proper (n l : ℕ) (list roles : List ℕ) : Type 0 where
  pub shaped : shape n l ≡ true
  pub rows_whole : whole_rows l list ≡ true
  pub known : row_count l list ≤ length roles
  pub size : length (chosen roles (rows_of l list)) ≡ n
  pub inside : Below (2 ^ n) (map (constraint l) (chosen roles (rows_of l list)))

module _ (n l : ℕ) (list roles : List ℕ) where
  pub proper_so : proper n l list roles ≡ true → Proper n l list roles
  unfolding proper listed enough within
  proper_so e =
      let a = both (shape n l && (whole_rows l list && leb (row_count l list) (length roles))) _ e in
      let b = both (shape n l) _ a.0 in
      let d = both (whole_rows l list) (leb (row_count l list) (length roles)) b.1 in
      let f = both (eqb (length (chosen roles (rows_of l list))) n) _ a.1 in
      record {
        shaped = b.0;
        rows_whole = d.0;
        known = leb-true (row_count l list) (length roles) d.1;
        size = eqb-true (length (chosen roles (rows_of l list))) n f.0;
        inside = none_stray n l (chosen roles (rows_of l list)) (eqb-true (count (λ row. stray n (constraint l row)) (chosen roles (rows_of l list))) 0 f.1);
      }

  pub proper_when : Proper n l list roles → proper n l list roles ≡ true
  unfolding proper listed enough within
  proper_when P =
      rw P.shaped (rw P.rows_whole (rw (le-leb (row_count l list) (length roles) P.known)
      (rw (stray_none n l (chosen roles (rows_of l list)) P.inside) (rw (eq-eqb (length (chosen roles (rows_of l list))) n P.size)))))
