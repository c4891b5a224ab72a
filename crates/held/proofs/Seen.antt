-- What counts goes by which entries stand before, not by how often; and an entry that stands before already adds none to these.
-- Assumes nothing.
use mathlib.Core.Path.{◌≡◌, refl, sym, ap, ◌∙◌}
use Prim.Native.Nat.{ℕ}
use mathlib.Core.Bool.{Bool, true, false, not, ◌||◌, or-false}
use mathlib.Core.List.{List, [], ◌∷◌, ◌++◌}
use lib.Dec.{eqb}
use borrow.Author.Tests.{eqb-true}
use Rattle.reading.specs.Orders.{among, counts_after}
use Rattle.reading.proofs.Among.{among-append}

pub more_same : (ds es : List ℕ) (e : ℕ) → ((x : ℕ) → among ds x ≡ among es x) → (x : ℕ) → among (ds ++ (e ∷ [])) x ≡ among (es ++ (e ∷ [])) x
more_same ds es e h x = among-append ds (e ∷ []) x ∙ ap (λ (b : Bool). b || among (e ∷ []) x) (h x) ∙ sym (among-append es (e ∷ []) x)

pub after_same : (entries ds es : List ℕ) → ((x : ℕ) → among ds x ≡ among es x) → counts_after ds entries ≡ counts_after es entries
unfolding counts_after
after_same [] ds es h = refl
after_same (e ∷ entries) ds es h = rw (h e) (ap (λ t. not (among es e) ∷ t) (after_same entries (ds ++ (e ∷ [])) (es ++ (e ∷ [])) (more_same ds es e h)))

pub again_among : (before : List ℕ) (e : ℕ) → among before e ≡ true → (x : ℕ) → among (before ++ (e ∷ [])) x ≡ among before x
again_among before e again x = among-append before (e ∷ []) x ∙ unfold among in go (eqb x e) refl
  where
    go : (b : Bool) → eqb x e ≡ b → (among before x || (b || false)) ≡ among before x
    go true h = rw (eqb-true x e h, again)
    go false h = or-false (among before x)
