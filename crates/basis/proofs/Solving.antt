-- Slots that stand for rows by their constraints: a pass tells whether a constraint is a sum of theirs, and leaves of the bit worth 2^k,
-- with nothing below it, the symbol k that the rows give.
-- Assumes nothing.
use mathlib.Core.Path.{◌≡◌, refl, sym, ap, ap₂, ◌∙◌}
use Prim.Native.Nat.{ℕ, suc, ◌+◌, ◌-◌, ◌*◌, ◌^◌, ◌<◌}
use native.Mathlib.Omega.{arith}
use mathlib.Core.Bool.{Bool, true, not}
use mathlib.Core.List.{List, [], ◌∷◌, ◌++◌, map}
use lib.Dec.{ltb}
use lib.ListN.{length, get_or, set, length-map}
use Rattle.space.specs.Space.{◌⊕◌, sum_of, spans, set_of, independent}
use Rattle.space.proofs.Linear.{map-sum}
use Rattle.space.proofs.Xor.{zero_⊕, ⊕_zero}
use Rattle.space.proofs.Sets.{length-set_of, set_of-sum, set_of_unique}
use Rattle.rows.specs.Rows.{constraint, payload}
use Rattle.rows.proofs.Sums.{constraint-⊕, payload-⊕}
use Rattle.reading.specs.Reading.{symbol}
use Rattle.basis.specs.Algorithm2.{pass}
use Rattle.basis.proofs.Digits.{Top}
use Rattle.basis.proofs.Passes.{pass_move}
use Rattle.basis.proofs.Stops.{pass-stop, pass_test}
use Rattle.basis.proofs.Stands.{Stand, key, key-⊕, key_low, stand_move, stand_test, stand_keep}
use Rattle.basis.proofs.Tails.{tail, tail_low, tail_shl, key_shl}

constraint-key : (l x : ℕ) → key (8 * l) x ≡ constraint l x
unfolding key constraint
constraint-key l x = refl

payload-tail : (l x : ℕ) → payload l x ≡ tail (8 * l) x
unfolding tail payload
payload-tail l x = refl

constraint_keys : (l : ℕ) (ps : List ℕ) → map (key (8 * l)) ps ≡ map (constraint l) ps
unfolding key constraint
constraint_keys l ps = refl

module _ (l : ℕ) (ps ss : List ℕ) (S : Stand (8 * l) ps ss) where
  -- no key is left exactly where the constraint is a sum of theirs
  pub solve_low : (row : ℕ) → ltb (pass (8 * l) ss row).vector (2 ^ (8 * l)) ≡ spans (map (constraint l) ps) (constraint l row)
  solve_low row = rw (constraint_keys l ps) at (rw (constraint-key l row) at (stand_test (8 * l) ps ss S row))

  module _ (row : ℕ) (small : row < 2 ^ (8 * l + length ss)) where
    -- the pass stops exactly where it is none
    pub solve_test : ltb (pass (8 * l) ss row).stop (length ss) ≡ not (spans (map (constraint l) ps) (constraint l row))
    solve_test = pass_test (8 * l) ss S.formed row small ∙ ap not (solve_low row)

    pub solve_keep : (pass (8 * l) ss row).stop < length ss → Stand (8 * l) (ps ++ (row ∷ [])) (set ss (pass (8 * l) ss row).stop (pass (8 * l) ss row).vector)
    solve_keep h =
        stand_keep (8 * l) ps ss S (pass (8 * l) ss row).stop k row (pass (8 * l) ss row).vector stops stop.1 stop.0 (pass_move (8 * l) ss row)
      where
        k : ℕ
        k = length ss - suc (pass (8 * l) ss row).stop

        stops : (pass (8 * l) ss row).stop + suc k ≡ length ss
        stops = omega arith

        stop : Top (8 * l + k) (pass (8 * l) ss row).vector × (get_or ss (pass (8 * l) ss row).stop 0 ≡ 0)
        stop = pass-stop (8 * l) ss S.formed row small k stops

  pub solve_symbol : independent (map (constraint l) ps) ≡ true → (k : ℕ) → (pass (8 * l) ss (2 ^ k * 2 ^ (8 * l))).vector < 2 ^ (8 * l)
      → (pass (8 * l) ss (2 ^ k * 2 ^ (8 * l))).vector ≡ symbol l ps k
  unfolding symbol
  solve_symbol i k h = sym pays ∙ ap (sum_of (map (payload l) ps)) mask
    where
      u : ℕ
      u = 2 ^ k * 2 ^ (8 * l)

      q : ℕ
      q = (pass (8 * l) ss u).vector

      m : List Bool
      m = set_of ps (u ⊕ q)

      whole : sum_of ps m ≡ u ⊕ q
      whole = set_of-sum ps (u ⊕ q) (stand_move (8 * l) ps ss S u)

      cons : sum_of (map (constraint l) ps) m ≡ 2 ^ k
      cons = map-sum (constraint l) (constraint-⊕ l) ps m ∙ ap (constraint l) whole ∙ sym (constraint-key l (u ⊕ q)) ∙ key-⊕ (8 * l) u q
          ∙ rw (key_shl (8 * l) (2 ^ k)) (rw (key_low (8 * l) q h) (⊕_zero (2 ^ k)))

      pays : sum_of (map (payload l) ps) m ≡ q
      pays = map-sum (payload l) (payload-⊕ l) ps m ∙ ap (payload l) whole ∙ payload-⊕ l u q
          ∙ ap₂ (λ (a b : ℕ). a ⊕ b) (payload-tail l u ∙ tail_shl (8 * l) (2 ^ k)) (payload-tail l q ∙ tail_low (8 * l) q h) ∙ zero_⊕ q

      mask : m ≡ set_of (map (constraint l) ps) (2 ^ k)
      mask = set_of_unique (map (constraint l) ps) i (2 ^ k) m (length-set_of ps (u ⊕ q) ∙ sym (length-map ps (constraint l))) cons
