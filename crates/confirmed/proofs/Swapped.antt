-- In a list of rank n, a kept row that has no use, with another payload: a map that respects sums takes the old rows to the new. It is the change, as
-- the value of that row and 0 for the other kept rows, extended to all rows; no other row of the list has that row in its set, so it stays.
-- Assumes nothing.
use mathlib.Core.Path.{◌≡◌, refl, sym, ap, ap₂, ◌∙◌}
use Prim.Native.Nat.{ℕ, ◌*◌, ◌^◌, ◌<◌}
use native.Mathlib.Nat.{zero-add}
use native.Mathlib.Omega.{arith}
use mathlib.Core.Bool.{Bool, true, false, cond, not, true≢false}
use mathlib.Core.List.{List, [], ◌∷◌, ◌++◌, map}
use lib.Dec.{eqb}
use lib.ListN.{length, get_or, length-append}
use lib.Pow.{pow_pos}
use borrow.Author.Tests.{eqb-true, eq-eqb, not-true}
use Rattle.space.specs.Lists.{All, Below}
use Rattle.space.specs.Space.{◌⊕◌, sum_of, spans, set_of}
use Rattle.space.proofs.Lists.{map-append, all_in, all_at}
use Rattle.space.proofs.Xor.{⊕_self, ⊕_zero, ⊕_cancel}
use Rattle.space.proofs.Sets.{first_free, set_of-sum}
use Rattle.space.proofs.Linear.{map-sum}
use Rattle.rows.specs.Rows.{constraint}
use Rattle.rows.proofs.Sums.{constraint-⊕, row_lt}
use Rattle.reading.specs.Reading.{kept_rows, other_rows, rank, singular}
use Rattle.reading.proofs.Kept.{kept-independent, others_span}
use Rattle.confirmed.specs.Confirmed.{Unused}
use Rattle.confirmed.proofs.Counts.{none_pass}
use Rattle.confirmed.proofs.Masks.{all_split}
use Rattle.confirmed.proofs.Marks.{unused-kept, unused_use}
use Rattle.confirmed.proofs.Misread.{uses_at_lem}
use Rattle.confirmed.proofs.Split.{sum_without, none_same, back_free, kept_tail, kept_split, elsewhere}
use Rattle.confirmed.proofs.Extending.{moved, moved-⊕, moved-own, moved-constraint, moved_inj}
use Rattle.confirmed.proofs.Moves.{Moves}
use Rattle.confirmed.proofs.Full.{full_free, full_inside}

module _ (n l : ℕ) (before : List ℕ) (r : ℕ) (after : List ℕ) (inside : Below (2 ^ n) (map (constraint l) (before ++ r ∷ after)))
    (full : rank (before ++ r ∷ after) ≡ n) (sound : singular n l (before ++ r ∷ after) ≡ false) (u : Unused before r after)
    (other : ℕ) (same : constraint l other ≡ constraint l r) where
  abbrev rows : List ℕ
  rows = before ++ r ∷ after

  abbrev tail : List ℕ
  tail = kept_tail before r after

  kept_is : kept_rows rows ≡ kept_rows before ++ r ∷ tail
  kept_is = kept_split before r after (unused-kept before r after u)

  -- the change, for that row
  value : ℕ → ℕ
  value k = cond (eqb k r) (r ⊕ other) 0

  value_lt : (k : ℕ) → value k < 2 ^ (8 * l)
  unfolding value
  value_lt k = go (eqb k r)
    where
      none : constraint l (r ⊕ other) ≡ 0
      none = constraint-⊕ l r other ∙ rw same (⊕_self (constraint l r))

      go : (b : Bool) → cond b (r ⊕ other) 0 < 2 ^ (8 * l)
      go true = rw (zero-add (8 * l)) at (row_lt 0 l (r ⊕ other) (omega (arith, none)))
      go false = pow_pos (8 * l)

  size : length (kept_rows rows) ≡ n
  size = unfold rank in full

  φ : ℕ → ℕ
  φ = moved n l (kept_rows rows) (full_inside n l rows inside full sound) (full_free n l rows inside full sound) size value

  add : (a b : ℕ) → φ (a ⊕ b) ≡ φ a ⊕ φ b
  unfolding φ
  add = moved-⊕ n l (kept_rows rows) (full_inside n l rows inside full sound) (full_free n l rows inside full sound) size value

  inj : (v : ℕ) → φ v ≡ 0 → v ≡ 0
  unfolding φ
  inj = moved_inj n l (kept_rows rows) (full_inside n l rows inside full sound) (full_free n l rows inside full sound) size value value_lt

  keep : (v : ℕ) → constraint l (φ v) ≡ constraint l v
  unfolding φ
  keep = moved-constraint n l (kept_rows rows) (full_inside n l rows inside full sound) (full_free n l rows inside full sound) size value value_lt

  -- ---- the rows that stay

  abbrev stays : ℕ → Bool
  stays v = eqb (φ v) v

  own : All (λ k. eqb (φ k) (k ⊕ value k)) (kept_rows before ++ r ∷ tail)
  own = split (λ k. eqb (φ k) (k ⊕ value k)) (all_in (λ k. eqb (φ k) (k ⊕ value k)) (kept_rows rows) (λ k m. eq-eqb (φ k) (k ⊕ value k) (unfold φ in
      moved-own n l (kept_rows rows) (full_inside n l rows inside full sound) (full_free n l rows inside full sound) size value m)))
    where
      split : (p : ℕ → Bool) → All p (kept_rows rows) → All p (kept_rows before ++ r ∷ tail)
      split p a = rw kept_is at a

  stay : (ks : List ℕ) → All (λ k. eqb (φ k) (k ⊕ value k)) ks → All (λ k. not (eqb k r)) ks → All stays ks
  unfolding value
  stay [] a b = tt
  stay (k ∷ ks) a b = (eq-eqb (φ k) k (eqb-true (φ k) (k ⊕ cond (eqb k r) (r ⊕ other) 0) a.0 ∙ rw (not-true (eqb k r) b.0) (⊕_zero k)), stay ks a.1 b.1)

  before_stay : All stays (kept_rows before)
  before_stay = stay (kept_rows before) (all_split _ (kept_rows before) (r ∷ tail) own).0 (none_same r (kept_rows before) (λ s. true≢false (sym s ∙ unused-kept before r after u)))

  after_stay : All stays tail
  after_stay = stay tail (all_split _ (kept_rows before) (r ∷ tail) own).1.1 (none_same r tail (first_free r tail (back_free (kept_rows before) (r ∷ tail) (rw kept_is at (kept-independent rows)))))

  still : (vs : List ℕ) → All stays vs → map φ vs ≡ vs
  still [] a = refl
  still (v ∷ vs) a = ap₂ (λ x t. x ∷ t) (eqb-true (φ v) v a.0) (still vs a.1)

  changes : φ r ≡ other
  unfolding value
  changes = eqb-true (φ r) (r ⊕ cond (eqb r r) (r ⊕ other) 0) (all_split _ (kept_rows before) (r ∷ tail) own).1.0 ∙ rw (eq-eqb r r refl) (⊕_cancel r other)

  around : (xs ys : List ℕ) → All stays xs → All stays ys → map φ (xs ++ r ∷ ys) ≡ xs ++ other ∷ ys
  around xs ys a b = map-append φ xs (r ∷ ys) ∙ ap₂ (λ s t. s ++ t) (still xs a) (ap₂ (λ x t. x ∷ t) changes (still ys b))

  -- a row that is not kept has not that row in its set
  others_stay : All stays (other_rows rows)
  others_stay = all_in stays (other_rows rows) (λ v m. eq-eqb (φ v) v
      (one v (all_at (spans (kept_rows rows)) (other_rows rows) (others_span rows) v m)
      (not-true _ (all_at (λ w. not (get_or (set_of (kept_rows rows) w) (rank before) false)) (other_rows rows)
      (none_pass (λ w. get_or (set_of (kept_rows rows) w) (rank before) false) (other_rows rows) (sym (uses_at_lem rows (rank before) place) ∙ unused_use before r after u)) v m))))
    where
      place : rank before < rank rows
      place = unfold rank in omega (arith, ap length kept_is, length-append (kept_rows before) (r ∷ tail))

      one : (v : ℕ) → spans (kept_rows rows) v ≡ true → get_or (set_of (kept_rows rows) v) (rank before) false ≡ false → φ v ≡ v
      one v s e =
          ap φ (sym (set_of-sum (kept_rows rows) v s)) ∙ sym (map-sum φ add (kept_rows rows) (set_of (kept_rows rows) v))
          ∙ ap (λ (ks : List ℕ). sum_of ks (set_of (kept_rows rows) v)) (ap (map φ) kept_is ∙ around (kept_rows before) tail before_stay after_stay)
          ∙ sum_without (kept_rows before) other r tail (set_of (kept_rows rows) v) (unfold rank in e)
          ∙ ap (λ (ks : List ℕ). sum_of ks (set_of (kept_rows rows) v)) (sym kept_is) ∙ set_of-sum (kept_rows rows) v s

  -- so that row is all that changes
  moved-rows : map φ rows ≡ before ++ other ∷ after
  moved-rows =
      let each : All stays before × All stays after = elsewhere before r after (unused-kept before r after u) stays before_stay after_stay others_stay in
      around before after each.0 each.1

  pub swapped : Moves l (before ++ r ∷ after) (before ++ other ∷ after)
  swapped = record { move = φ; add = add; inj = inj; keep = keep; rows = moved-rows }
