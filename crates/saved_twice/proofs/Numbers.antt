-- How many rows there are: those that agree with a page and the others are all rows; so of all rows, repeats included, and of those that count. For equal
-- entries agree or don't, all of them, so that among the others the same entries count as in the whole list.
-- Assumes nothing.
use mathlib.Core.Path.{◌≡◌, refl, sym, ap, ◌∙◌}
use Prim.Native.Nat.{ℕ, suc, ◌+◌}
use native.Mathlib.Omega.{arith}
use mathlib.Core.Bool.{Bool, true, false, cond, not, ◌||◌, true≢false}
use mathlib.Core.List.{List, [], ◌∷◌, ◌++◌, map, append-nil}
use lib.Dec.{eqb}
use lib.ListN.{length, length-map}
use borrow.Author.Tests.{eqb-true}
use Rattle.space.specs.Lists.{select, marked, count}
use Rattle.space.proofs.Lists.{map-append, select-append}
use Rattle.rows.specs.Rows.{vector, agrees}
use Rattle.reading.specs.Reading.{agreement}
use Rattle.reading.specs.Orders.{among, counts_after, counts, taken, in_list_order}
use Rattle.reading.proofs.Counted.{length-counts}
use Rattle.reading.proofs.Listed.{taken-listed}
use Rattle.apart.specs.Apart.{apart}

-- ---- the entries that pass a test

module _ (p : ℕ → Bool) where
  abbrev those : List ℕ → List ℕ
  those entries = select (map p entries) entries

  those-snoc : (entries : List ℕ) (e : ℕ) → those (entries ++ (e ∷ [])) ≡ those entries ++ select (p e ∷ []) (e ∷ [])
  those-snoc entries e =
      ap (λ (bs : List Bool). select bs (entries ++ (e ∷ []))) (map-append p entries (e ∷ []))
      ∙ select-append (map p entries) (p e ∷ []) entries (e ∷ []) (length-map entries p)

  -- one that passes is among those that pass exactly when it is among all
  among-those : (e : ℕ) → p e ≡ true → (entries : List ℕ) → among (those entries) e ≡ among entries e
  unfolding among select
  among-those e h [] = refl
  among-those e h (x ∷ entries) = go (p x) refl (eqb e x) refl (among-those e h entries)
    where
      go : (b : Bool) → p x ≡ b → (c : Bool) → eqb e x ≡ c → among (those entries) e ≡ among entries e
          → among (select (b ∷ map p entries) (x ∷ entries)) e ≡ (c || among entries e)
      go true q c r ih = rw (r, ih)
      go false q true r ih = absurd (true≢false (sym h ∙ ap p (eqb-true e x r) ∙ q))
      go false q false r ih = ih

  counts-after : (entries before : List ℕ) → counts_after (those before) (those entries) ≡ select (map p entries) (counts_after before entries)
  unfolding counts_after select
  counts-after [] before = refl
  counts-after (e ∷ entries) before = go (p e) refl (rw (those-snoc before e) at (counts-after entries (before ++ (e ∷ []))))
    where
      go : (b : Bool) → p e ≡ b → counts_after (those before ++ select (p e ∷ []) (e ∷ [])) (those entries) ≡ select (map p entries) (counts_after (before ++ (e ∷ [])) entries)
          → counts_after (those before) (select (b ∷ map p entries) (e ∷ entries)) ≡ select (b ∷ map p entries) (not (among before e) ∷ counts_after (before ++ (e ∷ [])) entries)
      go true q ih = rw (among-those e q before) (ap (λ t. not (among before e) ∷ t) (rw q at ih))
      go false q ih = ap (λ (bs : List ℕ). counts_after bs (those entries)) (sym (append-nil (those before))) ∙ (rw q at ih)

  -- those that pass count as they do in the whole list
  pub counts-those : (entries : List ℕ) → counts (select (map p entries) entries) ≡ select (map p entries) (counts entries)
  unfolding counts
  counts-those entries = unfold select in counts-after entries []

-- ---- those that agree with a page, and the others

-- things that pass a test, among some marked, and marks of the others
parted : (p : ℕ → Bool) (f : ℕ → ℕ) (cs : List Bool) (xs : List ℕ) → length cs ≡ length xs
    → count p (select cs (map f xs)) + marked (select (map (λ x. not (p (f x))) xs) cs) ≡ marked cs
unfolding count select marked
parted p f [] [] e = refl
parted p f [] (x ∷ xs) e = absurd (omega arith)
parted p f (c ∷ cs) [] e = absurd (omega arith)
parted p f (false ∷ cs) (x ∷ xs) e = go (p (f x)) (parted p f cs xs (omega arith))
  where
    go : (b : Bool) → count p (select cs (map f xs)) + marked (select (map (λ x. not (p (f x))) xs) cs) ≡ marked cs
        → count p (select cs (map f xs)) + marked (select (not b ∷ map (λ x. not (p (f x))) xs) (false ∷ cs)) ≡ marked cs
    go true ih = ih
    go false ih = ih
parted p f (true ∷ cs) (x ∷ xs) e = go (p (f x)) (parted p f cs xs (omega arith))
  where
    go : (b : Bool) → count p (select cs (map f xs)) + marked (select (map (λ x. not (p (f x))) xs) cs) ≡ marked cs
        → cond b (suc (count p (select cs (map f xs)))) (count p (select cs (map f xs))) + marked (select (not b ∷ map (λ x. not (p (f x))) xs) (true ∷ cs)) ≡ suc (marked cs)
    go true ih = omega (arith, ih)
    go false ih = omega (arith, ih)

-- of all rows, repeats included
pub apart-number : (l : ℕ) (page entries : List ℕ) → count (agrees l page) (map (vector l) entries) + length (apart l page entries) ≡ length entries
unfolding apart count select
apart-number l page [] = refl
apart-number l page (e ∷ entries) = go (agrees l page (vector l e)) (apart-number l page entries)
  where
    others : List Bool
    others = map (λ x. not (agrees l page (vector l x))) entries

    go : (b : Bool) → count (agrees l page) (map (vector l) entries) + length (select others entries) ≡ length entries
        → cond b (suc (count (agrees l page) (map (vector l) entries))) (count (agrees l page) (map (vector l) entries)) + length (select (not b ∷ others) (e ∷ entries))
        ≡ suc (length entries)
    go true ih = omega (arith, ih)
    go false ih = omega (arith, ih)

module _ (l : ℕ) (page entries : List ℕ) where
  -- of the rows that count: the agreement, and those of the others that count
  pub apart-counts : agreement l page (taken l entries (in_list_order entries)) + marked (counts (apart l page entries)) ≡ marked (counts entries)
  unfolding agreement apart
  apart-counts =
      rw (taken-listed l entries, counts-those (λ e. not (agrees l page (vector l e))) entries)
      (parted (agrees l page) (vector l) (counts entries) entries (length-counts entries))
