-- The page of n rows is the page of any other n rows that they span, with independent constraints: of rows added to each other, too. For what agrees
-- with a page is closed under sums, and the page is the only one that its rows agree with.
-- Assumes nothing.
use mathlib.Core.Path.{◌≡◌, sym, ◌∙◌}
use Prim.Native.Nat.{ℕ, ◌^◌}
use mathlib.Core.Bool.{true}
use mathlib.Core.List.{List, [], ◌∷◌, map}
use lib.ListN.{length, length-map}
use Rattle.space.specs.Lists.{All, Below}
use Rattle.space.specs.Space.{spans, independent}
use Rattle.space.proofs.Lists.{all_mono}
use Rattle.space.proofs.Linear.{map_spanned}
use Rattle.space.proofs.Closed.{span_below}
use Rattle.space.proofs.SameSpan.{same_span}
use Rattle.rows.specs.Rows.{constraint, agrees}
use Rattle.rows.proofs.Sums.{constraint-⊕}
use Rattle.reading.specs.Reading.{page_of}
use Rattle.reading.proofs.Page.{page-agrees, page_unique, length-page_of}
use Rattle.same_page.proofs.Agreeing.{agrees_span}

-- the constraints of rows span the constraints of what the rows span
pub constraints_span : (l : ℕ) (ps qs : List ℕ) → All (spans ps) qs → All (spans (map (constraint l) ps)) (map (constraint l) qs)
constraints_span l ps [] a = tt
constraints_span l ps (q ∷ qs) a = (map_spanned (constraint l) (constraint-⊕ l) ps q a.0, constraints_span l ps qs a.1)

module _ (l : ℕ) (ps qs : List ℕ) (size : length ps ≡ length qs) (a : All (spans ps) qs) where
  -- rows that span as many with independent constraints have independent constraints
  pub span_free : independent (map (constraint l) qs) ≡ true → independent (map (constraint l) ps) ≡ true
  span_free = same_span (map (constraint l) ps) (map (constraint l) qs) (simp length-map size) (constraints_span l ps qs a)

  -- and give the same page
  pub span_page : (n : ℕ) → length ps ≡ n → Below (2 ^ n) (map (constraint l) ps) → independent (map (constraint l) qs) ≡ true → page_of n l ps ≡ page_of n l qs
  span_page n e inside free =
      sym (page_unique n l qs (span_below n (map (constraint l) ps) inside (map (constraint l) qs) (constraints_span l ps qs a)) free (sym size ∙ e)
      (page_of n l ps) (length-page_of n l ps)
      (all_mono (spans ps) (agrees l (page_of n l ps)) (agrees_span l (page_of n l ps) ps (page-agrees n l ps inside (span_free free) e)) qs a))
