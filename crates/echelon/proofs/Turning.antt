-- The loop of `absorb_each`: from place i of the order on the rest of the arrivals ends as the whole order does. Absorbing leaves the order as it
-- was, so that the state still tells each arrival when its turn comes.
-- Assumes nothing.
use mathlib.Core.Path.{◌≡◌, refl, sym, ap, ◌∙◌}
use mathlib.Core.List.{List}
use Prim.Native.Nat.{ℕ, suc, ◌+◌, ◌≤◌, ◌<◌}
use native.Mathlib.Numerals.{add-one}
use native.Mathlib.Omega.{arith}
use lib.ListN.{length, drop, get_or}
use lib.Seq.{drop-cons, drop-length}
use Rattle.octets.specs.Octets.{number}
use Rattle.octets.proofs.Runs.{length-numbers}
use Rattle.lists.specs.Lists.{row_at}
use Rattle.state.specs.Layout.{state_bytes, order_in, arrival_at}
use Rattle.views.proofs.Told.{arrival-told}
use Rattle.absorb.specs.declared.Absorbed.{Absorbed}
use Rattle.absorb.specs.declared.Absorbed.TheVariants.{Kept, Other, Misfit}
use Rattle.echelon.specs.Eliminating.{Elimination, rank_after, one_more, absorb_in}
use Rattle.echelon.proofs.Staying.{absorbed_order}

pub length-order_in : (n : ℕ) (state : List ℕ) → length (order_in n state) ≡ n
unfolding order_in
length-order_in n state = length-numbers 2 n _

pub record Turning (l : ℕ) (list : List ℕ) (n : ℕ) (whole : Elimination) (old state : List ℕ) (r i : ℕ) : Type 0 where
  pub within : i ≤ n
  pub few : r ≤ i
  pub long : length state ≡ length old
  pub same : order_in n state ≡ order_in n old
  pub rest : absorb_in l list (drop i (order_in n old)) (record { state = state; rank = r }) ≡ whole

pub turning_start : (l : ℕ) (list : List ℕ) (n : ℕ) (old : List ℕ) → Turning l list n (absorb_in l list (order_in n old) (record { state = old; rank = 0 })) old old 0 0
turning_start l list n old = record { within = omega arith; few = omega arith; long = refl; same = refl; rest = refl }

rank-few : (a : Absorbed) (r i : ℕ) → r ≤ i → rank_after a r ≤ i + 1
unfolding rank_after
rank-few Kept r i h = omega arith
rank-few Other r i h = omega arith
rank-few Misfit r i h = omega arith

module _ (l : ℕ) (list : List ℕ) (n : ℕ) (whole : Elimination) (old state : List ℕ) (r i : ℕ) (T : Turning l list n whole old state r i) where
  -- one arrival more
  pub turning_more : i < n → n ≤ 512 → state_bytes ≤ length old → (arrival : ℕ) → arrival ≡ arrival_at i state → (next : List ℕ) (k : ℕ) → length next ≡ length state
      → next ≡ (one_more l list arrival (record { state = state; rank = r })).state → k ≡ (one_more l list arrival (record { state = state; rank = r })).rank
      → Turning l list n whole old next k (i + 1)
  unfolding one_more absorb_in
  turning_more h few room arrival at next k long e f =
      record {
        within = omega arith;
        few = rw f (rank-few _ r i T.few);
        long = long ∙ T.long;
        same = rw e (absorbed_order (length (row_at l arrival list)) (number (row_at l arrival list)) arrival r state n) ∙ T.same;
        rest = rw (add-one i) (rw e (rw f (sym split ∙ T.rest)));
      }
    where
      told : get_or (order_in n old) i 0 ≡ arrival
      told = sym (at ∙ arrival-told n state (omega (arith, T.long)) i h few ∙ ap (λ (order : List ℕ). get_or order i 0) T.same)

      split : absorb_in l list (drop i (order_in n old)) (record { state = state; rank = r })
          ≡ absorb_in l list (drop (suc i) (order_in n old)) (one_more l list arrival (record { state = state; rank = r }))
      split =
          ap (λ (xs : List ℕ). absorb_in l list xs (record { state = state; rank = r })) (drop-cons (order_in n old) i 0 (omega (arith, length-order_in n old)))
          ∙ ap (λ (a : ℕ). absorb_in l list (drop (suc i) (order_in n old)) (one_more l list a (record { state = state; rank = r }))) told

  pub turning_end : n ≤ i → (r ≡ whole.rank) × (state ≡ whole.state)
  unfolding absorb_in
  turning_end h =
      let e : i ≡ length (order_in n old) = omega (arith, T.within, length-order_in n old) in
      let s : record { state = state; rank = r } ≡ whole =
      sym (ap (λ (xs : List ℕ). absorb_in l list xs (record { state = state; rank = r })) (ap (λ (j : ℕ). drop j (order_in n old)) e ∙ drop-length (order_in n old))) ∙ T.rest in
      (ap (λ (w : Elimination). w.rank) s, ap (λ (w : Elimination). w.state) s)
