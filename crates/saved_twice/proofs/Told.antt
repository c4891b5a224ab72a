-- No row of a list vanishes without a word: each agrees with the first page or is in the second list. And where each row is of one of two
-- versions, of which the first reading gives one, the second gives the other whenever its rank reaches the number of symbols; its agreement is the number of
-- rows of the second list that count.
-- Assumes nothing.
use mathlib.Core.Path.{◌≡◌, refl, sym, ap, ◌∙◌}
use Prim.Native.Nat.{ℕ, ◌*◌, ◌^◌, ◌≤◌}
use native.Mathlib.Omega.{arith}
use mathlib.Core.Bool.{Bool, true, false, not, ◌||◌}
use mathlib.Core.List.Memᴰ
use mathlib.Core.List.{List, [], ◌∷◌, map, Memᴰ}
use mathlib.Core.Logic.{◌⊎◌, inl, inr, ⊎_elim}
use lib.ListN.{length}
use Rattle.space.specs.Lists.{Below, All, select, marked}
use Rattle.octets.specs.Octets.{numbers, flat, over}
use Rattle.octets.proofs.Runs.{length-flat, numbers-flat, take-over}
use Rattle.octets.proofs.Views.{numbers-take}
use Rattle.rows.specs.Rows.{symbols, list_row_bytes, entries_of, vector, rows_of, constraint, agrees}
use Rattle.rows.proofs.Lists.{entries-flat, entries_below}
use Rattle.rows.proofs.Pages.{length_symbols, symbols_below, flat-symbols}
use Rattle.reading.specs.declared.Answer.TheVariants as answer
use Rattle.reading.specs.Reading.{rank}
use Rattle.reading.specs.Orders.{counts, in_list_order}
use Rattle.reading.specs.Marks.{telling}
use Rattle.reading.specs.Outcome as outcome
use Rattle.reading.specs.Outcome.{Lent, ended, read, gave}
use Rattle.reading.proofs.Checks.{passed, inside}
use Rattle.reading.proofs.Page.{length-page_of, page_of_below}
use Rattle.demands.proofs.Any.{listed-takes}
use Rattle.demands.proofs.Demand2.{agreed_read}
use Rattle.reading.proofs.Given.{page-given}
use Rattle.apart.specs.Apart.{apart}
use Rattle.both.specs.Both as spec
use Rattle.both.specs.Both.{Second, lent_too, given_by, rest, followed}
use Rattle.saved_twice.specs.Added.{first_of, second_of}
use Rattle.saved_twice.specs.Saved.{page_given, second_entries, second_rows, OfEither}
use Rattle.apart.proofs.Apart.{apart_below, apart-inside}
use Rattle.both.proofs.Pairing.{plain_check}
use Rattle.saved_twice.proofs.Given.{both-passes, first-given, followed-both, second-list}
use Rattle.saved_twice.proofs.Demand2.{second-read}

-- ---- of entries

told : (l : ℕ) (page entries : List ℕ) (r : ℕ) → Memᴰ r (map (vector l) entries) → (agrees l page r ≡ true) ⊎ Memᴰ r (map (vector l) (apart l page entries))
unfolding apart select
told l page [] r m = absurd (Memᴰ.not-nil m)
told l page (x ∷ entries) r m = go (agrees l page (vector l x)) refl (Memᴰ.cases_cons m) (told l page entries r)
  where
    mask : List Bool
    mask = map (λ y. not (agrees l page (vector l y))) entries

    go : (a : Bool) → agrees l page (vector l x) ≡ a → (r ≡ vector l x) ⊎ Memᴰ r (map (vector l) entries)
        → (Memᴰ r (map (vector l) entries) → (agrees l page r ≡ true) ⊎ Memᴰ r (map (vector l) (select mask entries)))
        → (agrees l page r ≡ true) ⊎ Memᴰ r (map (vector l) (select (not a ∷ mask) (x ∷ entries)))
    go true e (inl p) ih = inl (ap (agrees l page) p ∙ e)
    go true e (inr k) ih = ih k
    go false e (inl p) ih = inr (Memᴰ.head p)
    go false e (inr k) ih = ⊎_elim inl (λ t. inr (Memᴰ.tail t)) (ih k)

apart_other : (l : ℕ) (one other entries : List ℕ) → OfEither l one other (map (vector l) entries) → All (agrees l other) (map (vector l) (apart l one entries))
unfolding apart select
apart_other l one other [] a = tt
apart_other l one other (x ∷ entries) a = go (agrees l one (vector l x)) a.0 (apart_other l one other entries a.1)
  where
    mask : List Bool
    mask = map (λ y. not (agrees l one (vector l y))) entries

    go : (b : Bool) → (b || agrees l other (vector l x)) ≡ true → All (agrees l other) (map (vector l) (select mask entries))
        → All (agrees l other) (map (vector l) (select (not b ∷ mask) (x ∷ entries)))
    go true e ih = ih
    go false e ih = (e, ih)

-- ---- the page that was written

symbols-over : (n l : ℕ) (page old : List ℕ) → length page ≡ n → Below (2 ^ (8 * l)) page → symbols n l (over (flat l page) old) ≡ page
unfolding symbols
symbols-over n l page old many low =
    sym (numbers-take l n (n * l) (over (flat l page) old) (omega arith))
    ∙ ap (numbers l n) (take-over (flat l page) old (n * l) (length-flat l page ∙ ap (λ (m : ℕ). m * l) many))
    ∙ ap (λ (m : ℕ). numbers l m (flat l page)) (sym many) ∙ numbers-flat l page low

-- ---- of lists of bytes, where a page was given

module _ (n l : ℕ) (list : List ℕ) (lent : Lent) (s : Second) (b : Below 256 list) (page : gave (first_of (spec.both n l list lent s)) ≡ true) where
  abbrev entries : List ℕ
  entries = entries_of l list

  abbrev page₁ : List ℕ
  page₁ = given_by n l entries

  within : Below (2 ^ n) (map (constraint l) (map (vector l) entries))
  within = unfold rows_of in inside n l list lent (passed n l list lent (plain_check n l list lent s (both-passes n l list lent s page)))

  -- the bytes of the page are its symbols
  page_is : page_given n l (spec.both n l list lent s) ≡ page₁
  unfolding followed outcome.told ended
  page_is =
      rw (followed-both n l list lent s page, (page-given n l entries (in_list_order entries) lent (first-given n l list lent s page)).solves)
      (symbols-over n l page₁ lent.page (length-page_of n l _) (page_of_below n l _))

  -- the second list has the entries of the rows that don't agree with the page, in their old order, and no others
  pub second-rows : second_entries l (spec.both n l list lent s) ≡ apart l (page_given n l (spec.both n l list lent s)) (entries_of l list)
  second-rows =
      ap (entries_of l) (second-list n l list lent s page) ∙ entries-flat l (rest n l entries) (apart_below l page₁ entries (2 ^ (8 * list_row_bytes l)) (entries_below l list b))
      ∙ ap (λ (p : List ℕ). apart l p entries) (sym page_is)

  -- each row agrees with the page or is in the second list
  pub all_told : (r : ℕ) → Memᴰ r (rows_of l list) → (agrees l (page_given n l (spec.both n l list lent s)) r ≡ true) ⊎ Memᴰ r (second_rows l (spec.both n l list lent s))
  unfolding rows_of
  all_told r m = rw second-rows (told l (page_given n l (spec.both n l list lent s)) entries r m)

  pub other_version : (other : List ℕ) → length other ≡ n * l → Below 256 other
      → OfEither l (page_given n l (spec.both n l list lent s)) (symbols n l other) (rows_of l list) → n ≤ rank (second_rows l (spec.both n l list lent s))
      → second_of (spec.both n l list lent s)
      ≡ ended n l (second_entries l (spec.both n l list lent s)) (in_list_order (second_entries l (spec.both n l list lent s))) (lent_too lent.scratch s)
      (answer.Page n (marked (counts (second_entries l (spec.both n l list lent s))))) telling other
  unfolding rows_of
  other_version other size bytes either enough =
      second-read n l list lent s page
      ∙ ap (λ (es : List ℕ). read n l es (in_list_order es) (lent_too lent.scratch s)) (sym left)
      ∙ agreed_read n l (symbols n l other) (length_symbols n l other) (symbols_below n l other size bytes) second (in_list_order second) (listed-takes second)
      (rw left (apart-inside l page₁ entries (2 ^ n) within))
      (rw second-rows (apart_other l (page_given n l (spec.both n l list lent s)) (symbols n l other) entries either)) enough (lent_too lent.scratch s)
      ∙ rw (flat-symbols n l other size bytes)
    where
      second : List ℕ
      second = second_entries l (spec.both n l list lent s)

      left : second ≡ rest n l entries
      left = second-rows ∙ ap (λ (p : List ℕ). apart l p entries) page_is
