-- Lists of as many vectors, where one spans the other: if the other is independent so is the one, and it is spanned back. By the exchange law.
-- Assumes nothing.
use mathlib.Core.Path.{◌≡◌, refl, sym, ap, ◌∙◌}
use Prim.Native.Nat.{ℕ, suc}
use native.Mathlib.Omega.{arith}
use mathlib.Core.Bool.{Bool, true, false, true≢false}
use mathlib.Core.List.{List, [], ◌∷◌, Memᴰ}
use lib.ListN.{length}
use Rattle.space.specs.Lists.{All}
use Rattle.space.specs.Space.{spans, independent}
use Rattle.space.proofs.Lists.{all_mono, all_in, all_at}
use Rattle.space.proofs.Sets.{spans-left, spans-own, spans-through, independent_cons}
use Rattle.space.proofs.Exchange.{no_more}

-- of dependent vectors, all but one span all
spare : (ps : List ℕ) → independent ps ≡ false → (ls : List ℕ) × (length ps ≡ suc (length ls)) × All (spans ls) ps
unfolding independent
spare [] e = absurd (true≢false e)
spare (p ∷ ps) e = go (spans ps p) refl (spare ps)
  where
    go : (b : Bool) → spans ps p ≡ b → (independent ps ≡ false → (ls : List ℕ) × (length ps ≡ suc (length ls)) × All (spans ls) ps)
        → (ls : List ℕ) × (suc (length ps) ≡ suc (length ls)) × All (spans ls) (p ∷ ps)
    go true s ih = (ps, refl, (s, spans-own ps))
    go false s ih =
        let l : (ls : List ℕ) × (length ps ≡ suc (length ls)) × All (spans ls) ps = ih (rw s at e) in
        (p ∷ l.0, ap suc l.1, ((spans-own (p ∷ l.0)).0, all_mono (spans l.0) (spans (p ∷ l.0)) (spans-left p l.0) ps l.2))

-- vectors that span as many independent ones are independent
pub same_span : (ps qs : List ℕ) → length ps ≡ length qs → All (spans ps) qs → independent qs ≡ true → independent ps ≡ true
same_span ps qs size a i = go (independent ps) refl
  where
    go : (b : Bool) → independent ps ≡ b → independent ps ≡ true
    go true e = e
    go false e =
        let l : (ls : List ℕ) × (length ps ≡ suc (length ls)) × All (spans ls) ps = spare ps e in
        absurd (omega (arith, l.1, no_more l.0 qs (all_mono (spans ps) (spans l.0) (spans-through ps l.0 l.2) qs a) i))

-- and those span them back
pub same_span_back : (ps qs : List ℕ) → length ps ≡ length qs → All (spans ps) qs → independent qs ≡ true → All (spans qs) ps
same_span_back ps qs size a i = all_in (spans qs) ps (λ p m. go p m (spans qs p) refl)
  where
    go : (p : ℕ) → Memᴰ p ps → (b : Bool) → spans qs p ≡ b → spans qs p ≡ true
    go p m true e = e
    go p m false e = absurd (omega (arith, no_more ps (p ∷ qs) (all_at (spans ps) ps (spans-own ps) p m, a) (independent_cons p qs (λ t. true≢false (sym t ∙ e)) i)))

-- two tests of which each holds where the other does are one
both_ways : (a b : Bool) → (a ≡ true → b ≡ true) → (b ≡ true → a ≡ true) → a ≡ b
both_ways true b f g = sym (f refl)
both_ways false true f g = g refl
both_ways false false f g = refl

-- lists that span each other span the same
pub spans_same : (ps qs : List ℕ) → All (spans ps) qs → All (spans qs) ps → (v : ℕ) → spans ps v ≡ spans qs v
spans_same ps qs a b v = both_ways (spans ps v) (spans qs v) (spans-through ps qs b v) (spans-through qs ps a v)

-- and of as many vectors that span each other, both lists are independent or neither is
pub same_independent : (ps qs : List ℕ) → length ps ≡ length qs → All (spans ps) qs → All (spans qs) ps → independent ps ≡ independent qs
same_independent ps qs size a b = both_ways (independent ps) (independent qs) (same_span qs ps (sym size) b) (same_span ps qs size a)
