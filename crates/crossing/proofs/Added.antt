-- Two pages added bit by bit are added symbol by symbol.
-- Assumes nothing.
use mathlib.Core.Path.{◌≡◌, refl, sym, ap, ap₂, ◌∙◌}
use Prim.Native.Nat.{ℕ, ◌*◌, ◌^◌}
use native.Mathlib.Omega.{arith}
use mathlib.Core.List.{List, [], ◌∷◌}
use lib.ListN.{length}
use Rattle.space.specs.Lists.{Below}
use Rattle.space.proofs.Xor.{⊕_lt}
use Rattle.octets.specs.Octets.{numbers, flat, xor_bytes}
use Rattle.octets.proofs.Runs.{numbers-flat}
use Rattle.rows.specs.Rows.{symbols}
use Rattle.rows.specs.Shift.{plus}
use Rattle.rows.proofs.Pages.{length_symbols, symbols_below, flat-symbols}
use Rattle.rows.proofs.Shifts.{flat-plus}

length-plus : (p q : List ℕ) → length p ≡ length q → length (plus p q) ≡ length p
unfolding plus
length-plus [] q e = refl
length-plus (s ∷ p) [] e = absurd (omega arith)
length-plus (s ∷ p) (t ∷ q) e = omega (arith, length-plus p q (omega arith))

plus_below : (k : ℕ) (p q : List ℕ) → Below (2 ^ k) p → Below (2 ^ k) q → Below (2 ^ k) (plus p q)
unfolding plus
plus_below k [] q b d = tt
plus_below k (s ∷ p) [] b d = tt
plus_below k (s ∷ p) (t ∷ q) b d = (⊕_lt k s t b.0 d.0, plus_below k p q b.1 d.1)

module _ (n l : ℕ) (p q : List ℕ) (sp : length p ≡ n * l) (sq : length q ≡ n * l) (bp : Below 256 p) (bq : Below 256 q) where
  pub same_symbols : length (symbols n l p) ≡ length (symbols n l q)
  same_symbols = length_symbols n l p ∙ sym (length_symbols n l q)

  pub symbols-plus : symbols n l (xor_bytes p q) ≡ plus (symbols n l p) (symbols n l q)
  symbols-plus =
      ap (symbols n l) (sym (flat-plus l (symbols n l p) (symbols n l q) same_symbols ∙ ap₂ xor_bytes (flat-symbols n l p sp bp) (flat-symbols n l q sq bq)))
      ∙ back
    where
      both : List ℕ
      both = plus (symbols n l p) (symbols n l q)

      many : length both ≡ n
      many = length-plus (symbols n l p) (symbols n l q) same_symbols ∙ length_symbols n l p

      back : symbols n l (flat l both) ≡ both
      back = unfold symbols in ap (λ (m : ℕ). numbers l m (flat l both)) (sym many) ∙ numbers-flat l both (plus_below (8 * l) (symbols n l p) (symbols n l q) (symbols_below n l p sp bp) (symbols_below n l q sq bq))
