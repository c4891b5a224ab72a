-- Rows that go into slots: all go in exactly where their constraints are independent, and then the slots stand for them. One row after
-- the other: a row goes in exactly where its constraint is no sum of those before.
-- Assumes nothing.
use mathlib.Core.Path.{◌≡◌, refl, sym, ap, ◌∙◌}
use Prim.Native.Nat.{ℕ, ◌+◌, ◌*◌, ◌^◌, ◌<◌}
use mathlib.Core.Bool.{Bool, true, false, cond, not, and-false, true≢false}
use mathlib.Core.List.{List, [], ◌∷◌, ◌++◌, map, append-nil}
use lib.ListN.{length, replicate, length-set, length-replicate}
use lib.Seq.{append_snoc}
use borrow.Author.Tests.{ltb-true, not-false}
use Rattle.space.specs.Lists.{Below, select}
use Rattle.space.specs.Space.{spans, independent}
use Rattle.space.proofs.Lists.{map-append}
use Rattle.space.proofs.Sets.{select-independent, independent-snoc}
use Rattle.rows.specs.Rows.{constraint}
use Rattle.basis.specs.Algorithm2.{pass}
use Rattle.basis.proofs.Stands.{Stand, stand_none}
use Rattle.basis.proofs.Solving.{solve_test, solve_keep}
use Rattle.filling.specs.Fill.{Filled, leaves}
use Rattle.filled.specs.Model.{enters, entered, fill, empty}

-- ---- vectors of which one is a sum of those before it

select-front : (ks ls : List ℕ) → select (replicate (length ks) true) (ks ++ ls) ≡ ks
unfolding select
select-front [] ls = refl
select-front (k ∷ ks) ls = ap (λ t. k ∷ t) (select-front ks ls)

independent-front : (ks ls : List ℕ) → independent (ks ++ ls) ≡ true → independent ks ≡ true
independent-front ks ls i = rw (select-front ks ls) at (select-independent (replicate (length ks) true) (ks ++ ls) i)

pub dependent_front : (ks : List ℕ) (k : ℕ) (ls : List ℕ) → spans ks k ≡ true → independent (ks ++ k ∷ ls) ≡ false
dependent_front ks k ls e = go (independent (ks ++ k ∷ ls)) refl
  where
    none : independent (ks ++ (k ∷ [])) ≡ false
    none = independent-snoc ks k ∙ rw e (and-false (independent ks))

    go : (b : Bool) → independent (ks ++ k ∷ ls) ≡ b → b ≡ false
    go true i = sym (independent-front (ks ++ (k ∷ [])) ls (rw (append_snoc ks k ls) i)) ∙ none
    go false i = refl

-- ---- rows that go in

-- what comes of rows ps: whether all went in, and what the slots stand for if so
pub record Solving (l : ℕ) (ps : List ℕ) (f : Filled) : Type 0 where
  pub all : f.all ≡ independent (map (constraint l) ps)
  pub stand : f.all ≡ true → Stand (8 * l) ps f.slots

-- one row more
module _ (l : ℕ) (ps slots : List ℕ) (S : Stand (8 * l) ps slots) (row : ℕ) (small : row < 2 ^ (8 * l + length slots)) where
  enters_test : enters l slots row ≡ not (spans (map (constraint l) ps) (constraint l row))
  unfolding enters
  enters_test = solve_test l ps slots S row small

  enters_stand : enters l slots row ≡ true → Stand (8 * l) (ps ++ (row ∷ [])) (entered l slots row)
  unfolding enters entered
  enters_stand e = solve_keep l ps slots S row small (ltb-true (pass (8 * l) slots row).stop (length slots) e)

  enters_free : independent (map (constraint l) ps) ≡ true → enters l slots row ≡ true → independent (map (constraint l) (ps ++ (row ∷ []))) ≡ true
  enters_free free e =
      ap independent (map-append (constraint l) ps (row ∷ [])) ∙ independent-snoc (map (constraint l) ps) (constraint l row)
      ∙ rw (free, ← enters_test) e

  enters_not : (rows : List ℕ) → enters l slots row ≡ false → independent (map (constraint l) (ps ++ row ∷ rows)) ≡ false
  enters_not rows e = ap independent (map-append (constraint l) ps (row ∷ rows)) ∙ dependent_front (map (constraint l) ps) (constraint l row) (map (constraint l) rows) spanned
    where
      spanned : spans (map (constraint l) ps) (constraint l row) ≡ true
      spanned = not-false (spans (map (constraint l) ps) (constraint l row)) (sym enters_test ∙ e)

length-entered : (l : ℕ) (slots : List ℕ) (row : ℕ) → length (entered l slots row) ≡ length slots
unfolding entered
length-entered l slots row = length-set slots (pass (8 * l) slots row).stop (pass (8 * l) slots row).vector

fill_right : (l : ℕ) (rows ps slots : List ℕ) → Stand (8 * l) ps slots → independent (map (constraint l) ps) ≡ true
    → Below (2 ^ (8 * l + length slots)) rows → Solving l (ps ++ rows) (fill l slots rows)
unfolding fill
fill_right l [] ps slots S free b = rw (append-nil ps) (record { all = sym free; stand = λ e. S })
fill_right l (row ∷ rows) ps slots S free b =
    go (enters l slots row) refl
    (λ e. fill_right l rows (ps ++ (row ∷ [])) (entered l slots row) (enters_stand l ps slots S row b.0 e) (enters_free l ps slots S row b.0 free e)
    (rw (length-entered l slots row) b.1))
  where
    go : (c : Bool) → enters l slots row ≡ c → (enters l slots row ≡ true → Solving l ((ps ++ (row ∷ [])) ++ rows) (fill l (entered l slots row) rows))
        → Solving l (ps ++ row ∷ rows) (cond c (fill l (entered l slots row) rows) (leaves slots false))
    go true e more = rw (append_snoc ps row rows) at (more e)
    go false e more = record { all = sym (enters_not l ps slots S row b.0 rows e); stand = λ no. absurd (true≢false (sym no)) }

-- all go in exactly where their constraints are independent
pub fill-empty : (l : ℕ) (ps : List ℕ) → Below (2 ^ (8 * l + 64)) ps → Solving l ps (fill l empty ps)
unfolding empty independent
fill-empty l ps b = fill_right l ps [] (replicate 64 0) (stand_none (8 * l) 64) refl (rw (length-replicate {A = ℕ} 64 0) b)
