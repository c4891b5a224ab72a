-- What the marks that a reading writes tell: whether the page is confirmed, and where it is not, an arrival that has no use.
-- Assumes nothing.
use mathlib.Core.Path.{◌≡◌, refl, sym, ap, ap₂, ◌∙◌}
use Prim.Native.Nat.{ℕ, zero, suc, ◌<◌}
use native.Mathlib.Omega.{arith}
use mathlib.Core.Bool.{Bool, true, false, cond, not, ◌&&◌, true≢false}
use mathlib.Core.List.{List, [], ◌∷◌, ◌++◌, map}
use lib.Dec.{eqb}
use lib.ListN.{length, get_or}
use borrow.Author.Tests.{eqb-true, ne_eqb}
use Rattle.space.specs.Lists.{select, marked, count}
use Rattle.space.specs.Space.{spans}
use Rattle.space.proofs.Lists.{length-select}
use Rattle.rows.specs.Rows.{vector}
use Rattle.reading.specs.Reading.{kept_after, kept, kept_rows, rank, uses, picked}
use Rattle.reading.specs.Orders.{taken, in_list_order}
use Rattle.reading.specs.Marks.{uses_marks, roles_marks, telling}
use Rattle.reading.proofs.Kept.{kept_append, length-kept}
use Rattle.reading.proofs.Pick.{length-uses, length-picked}
use Rattle.held.specs.Listed.{spread, listed_uses, listed_roles}
use Rattle.held.proofs.Listed.{marks_all, rank-all}
use Rattle.confirmed.specs.Confirmed.{confirmed, confirmed_marks, Unused}

-- ---- confirmed

spread-confirmed : (ks ps : List Bool) (us : List ℕ) → length ps ≡ marked ks → length us ≡ marked ks
    → confirmed_marks (spread 0 ks (map telling ps)) (spread 65535 ks us) ≡ eqb (count (eqb 0) (select ps us)) 0
unfolding spread confirmed_marks marked select count
spread-confirmed [] [] us e f = refl
spread-confirmed [] (p ∷ ps) us e f = absurd (omega arith)
spread-confirmed (false ∷ ks) ps us e f = spread-confirmed ks ps us e f
spread-confirmed (true ∷ ks) [] us e f = absurd (omega arith)
spread-confirmed (true ∷ ks) (p ∷ ps) [] e f = absurd (omega arith)
spread-confirmed (true ∷ ks) (false ∷ ps) (u ∷ us) e f = spread-confirmed ks ps us (omega arith) (omega arith)
spread-confirmed (true ∷ ks) (true ∷ ps) (zero ∷ us) e f = sym (ne_eqb (suc (count (eqb 0) (select ps us))) 0 (λ q. omega arith))
spread-confirmed (true ∷ ks) (true ∷ ps) (suc u ∷ us) e f =
    rw (ne_eqb (suc u) 0 (λ q. omega arith), ne_eqb 0 (suc u) (λ q. omega arith)) (spread-confirmed ks ps us (omega arith) (omega arith))

marked-kept : (rows : List ℕ) → marked (kept rows) ≡ rank rows
unfolding rank kept_rows
marked-kept rows = sym (length-select (kept rows) rows (length-kept rows))

-- no arrival has the role 2 and the use 0 exactly when the page is confirmed
pub marks_confirmed : (n : ℕ) (rows : List ℕ) → confirmed_marks (listed_roles telling n rows) (listed_uses rows) ≡ confirmed n rows
unfolding listed_roles listed_uses confirmed
marks_confirmed n rows = spread-confirmed (kept rows) (picked n rows) (uses rows) (length-picked n rows ∙ sym (marked-kept rows)) (length-uses rows ∙ sym (marked-kept rows))

-- so of entries in list order, whatever repeats
pub listed-confirmed : (n l : ℕ) (entries : List ℕ)
    → confirmed_marks (roles_marks telling n l entries (in_list_order entries)) (uses_marks l entries (in_list_order entries)) ≡ confirmed n (taken l entries (in_list_order entries))
unfolding roles_marks uses_marks confirmed
listed-confirmed n l entries =
    rw (marks_all l entries 0 (map telling (picked n these)), marks_all l entries 65535 (uses these))
    (spread-confirmed (kept (map (vector l) entries)) (picked n these) (uses these) (length-picked n these ∙ sym number) (length-uses these ∙ sym number))
  where
    these : List ℕ
    these = taken l entries (in_list_order entries)

    number : marked (kept (map (vector l) entries)) ≡ rank these
    number = marked-kept (map (vector l) entries) ∙ sym (rank-all l entries)

-- ---- not confirmed

-- an arrival whose use is 0
pub alone_at : (roles us : List ℕ) → confirmed_marks roles us ≡ false → (i : ℕ) × (i < length us) × (get_or us i 65535 ≡ 0)
unfolding confirmed_marks
alone_at [] us e = absurd (true≢false e)
alone_at (r ∷ roles) [] e = absurd (true≢false e)
alone_at (r ∷ roles) (u ∷ us) e = go (eqb r 2) (eqb u 0) refl e (alone_at roles us)
  where
    go : (a b : Bool) → eqb u 0 ≡ b → (not (a && b) && confirmed_marks roles us) ≡ false
        → (confirmed_marks roles us ≡ false → (i : ℕ) × (i < length us) × (get_or us i 65535 ≡ 0)) → (i : ℕ) × (i < length (u ∷ us)) × (get_or (u ∷ us) i 65535 ≡ 0)
    go true true q h ih = (0, omega arith, eqb-true u 0 q)
    go true false q h ih = let s : (i : ℕ) × (i < length us) × (get_or us i 65535 ≡ 0) = ih h in (suc s.0, omega (arith, s.1), s.2)
    go false b q h ih = let s : (i : ℕ) × (i < length us) × (get_or us i 65535 ≡ 0) = ih h in (suc s.0, omega (arith, s.1), s.2)

-- ---- what a mark of 0 says of its row

spread_seam : (d : ℕ) (bs : List Bool) (b : Bool) (cs : List Bool) (vs : List ℕ) → get_or (spread d (bs ++ b ∷ cs) vs) (length bs) d ≡ cond b (get_or vs (marked bs) d) d
unfolding spread marked
spread_seam d [] true cs [] = refl
spread_seam d [] true cs (v ∷ vs) = refl
spread_seam d [] false cs vs = refl
spread_seam d (false ∷ bs) b cs vs = spread_seam d bs b cs vs
spread_seam d (true ∷ bs) b cs [] = spread_seam d bs b cs []
spread_seam d (true ∷ bs) b cs (v ∷ vs) = spread_seam d bs b cs vs

zero_any : (vs : List ℕ) (j : ℕ) → get_or vs j 65535 ≡ 0 → get_or vs j 0 ≡ 0
zero_any [] j e = refl
zero_any (v ∷ vs) zero e = e
zero_any (v ∷ vs) (suc j) e = zero_any vs j e

module _ (before : List ℕ) (r : ℕ) (after : List ℕ) (u : Unused before r after) where
  at : (b : Bool) (cs : List Bool) → kept (before ++ r ∷ after) ≡ kept before ++ b ∷ cs → cond b (get_or (uses (before ++ r ∷ after)) (rank before) 65535) 65535 ≡ 0
  unfolding listed_uses
  at b cs k =
      ap (λ (m : ℕ). cond b (get_or (uses (before ++ r ∷ after)) m 65535) 65535) (sym (marked-kept before))
      ∙ sym (spread_seam 65535 (kept before) b cs (uses (before ++ r ∷ after)))
      ∙ ap₂ (λ bs m. get_or (spread 65535 bs (uses (before ++ r ∷ after))) m 65535) (sym k) (length-kept before) ∙ u

  -- the rows kept before it do not span it
  pub unused-kept : spans (kept_rows before) r ≡ false
  unused-kept = go (spans (kept_rows before) r) refl
    where
      go : (s : Bool) → spans (kept_rows before) r ≡ s → s ≡ false
      go true s = absurd (omega (arith, at false (kept_after (kept_rows before) after) (kept_append before (r ∷ after) ∙ ap (λ t. kept before ++ t) (unfold kept_after in rw s))))
      go false s = refl

  -- and at its kept place the use is 0
  pub unused_use : get_or (uses (before ++ r ∷ after)) (rank before) 0 ≡ 0
  unused_use =
      zero_any (uses (before ++ r ∷ after)) (rank before)
      (at true (kept_after (kept_rows before ++ (r ∷ [])) after) (kept_append before (r ∷ after) ∙ ap (λ t. kept before ++ t) (unfold kept_after in rw unused-kept)))
