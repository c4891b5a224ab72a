-- The same rows in another order give the same page: each list spans the other.
-- Assumes nothing.
use mathlib.Core.Path.{◌≡◌, refl, sym, ap, ◌∙◌}
use Prim.Native.Nat.{ℕ, suc, ◌^◌}
use mathlib.Core.Bool.{true}
use mathlib.Core.List.Memᴰ
use mathlib.Core.List.Permᴰ
use mathlib.Core.List.{List, map, Memᴰ, Permᴰ}
use mathlib.Core.Logic.{⊎_elim}
use lib.ListN.{length, length-map}
use Rattle.space.specs.Lists.{All, Below}
use Rattle.space.specs.Space.{spans, independent}
use Rattle.space.proofs.Lists.{all_in, all_at}
use Rattle.space.proofs.Sets.{spans-own}
use Rattle.space.proofs.SameSpan.{same_independent}
use Rattle.rows.specs.Rows.{constraint}
use Rattle.reading.specs.Reading.{page_of}
use Rattle.same_page.specs.SameRows.{SameRows}
use Rattle.same_page.proofs.Spanning.{constraints_span, span_page}

member_spans : (ps qs : List ℕ) → ((r : ℕ) → Memᴰ r ps → Memᴰ r qs) → All (spans qs) ps
member_spans ps qs f = all_in (spans qs) ps (λ r m. all_at (spans qs) qs (spans-own qs) r (f r m))

module _ (l : ℕ) (ps qs : List ℕ) (same : SameRows ps qs) where
  -- have independent constraints or not, in any order
  pub rows_free : independent (map (constraint l) ps) ≡ independent (map (constraint l) qs)
  rows_free =
      same_independent (map (constraint l) ps) (map (constraint l) qs) (simp length-map same.size)
      (constraints_span l ps qs (member_spans qs ps same.back)) (constraints_span l qs ps (member_spans ps qs same.there))

  -- and one page
  pub rows-page : (n : ℕ) → length ps ≡ n → Below (2 ^ n) (map (constraint l) ps) → independent (map (constraint l) ps) ≡ true → page_of n l ps ≡ page_of n l qs
  rows-page n e inside free = span_page l ps qs same.size (member_spans qs ps same.back) n e inside (sym rows_free ∙ free)

-- a permutation has the same rows
moved : {ps qs : List ℕ} → Permᴰ ps qs → (r : ℕ) → Memᴰ r ps → Memᴰ r qs
moved Permᴰ.nil r m = m
moved (Permᴰ.cons e d) r m = ⊎_elim (λ p. Memᴰ.head (p ∙ e)) (λ k. Memᴰ.tail (moved d r k)) (Memᴰ.cases_cons m)
moved (Permᴰ.swap e f) r m =
    ⊎_elim (λ p. Memᴰ.tail (Memᴰ.head (p ∙ e)))
    (λ k. ⊎_elim (λ p. Memᴰ.head (p ∙ f)) (λ j. Memᴰ.tail (Memᴰ.tail j)) (Memᴰ.cases_cons k)) (Memᴰ.cases_cons m)
moved (Permᴰ.trans d e) r m = moved e r (moved d r m)

permuted_length : {ps qs : List ℕ} → Permᴰ ps qs → length ps ≡ length qs
permuted_length Permᴰ.nil = refl
permuted_length (Permᴰ.cons e d) = ap suc (permuted_length d)
permuted_length (Permᴰ.swap e f) = refl
permuted_length (Permᴰ.trans d e) = permuted_length d ∙ permuted_length e

pub permuted : {ps qs : List ℕ} → Permᴰ ps qs → SameRows ps qs
permuted d = record { size = permuted_length d; there = moved d; back = moved (Permᴰ.symm d) }
