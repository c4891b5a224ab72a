-- A buffer filled one element at a time, from the front or from the back: what a loop that writes one element a turn holds.
-- Assumes nothing.
use mathlib.Core.Path.{◌≡◌, refl, ap, ap₂, ◌∙◌}
use mathlib.Core.List.{List, [], ◌∷◌, ◌++◌, append_assoc, append-nil}
use Prim.Native.Nat.{ℕ, suc, ◌+◌, ◌≤◌, ◌<◌}
use native.Mathlib.Nat.{le_of_lt}
use native.Mathlib.Numerals.{add-one}
use native.Mathlib.Omega.{arith}
use lib.ListN.{length, take, drop, get_or, set, length-set}
use lib.Seq.{take-suc, drop-cons, set_at, get_or_at, length-take-le, take-length, drop-length}
use Rattle.octets.specs.Octets.{over}

-- The first i elements of a, then those of b.
abbrev pub filled : ℕ → List ℕ → List ℕ → List ℕ
filled i a b = take i a ++ drop i b

module _ (i : ℕ) (a b : List ℕ) (ha : i < length a) (hb : i < length b) where
  seam_before : filled i a b ≡ take i a ++ (get_or b i 0 ∷ drop (suc i) b)
  seam_before = ap (λ t. take i a ++ t) (drop-cons b i 0 hb)

  seam_after : filled (i + 1) a b ≡ take i a ++ (get_or a i 0 ∷ drop (suc i) b)
  seam_after = rw add-one (ap (λ t. t ++ drop (suc i) b) (take-suc a i 0 ha) ∙ append_assoc (take i a) (get_or a i 0 ∷ []) (drop (suc i) b))

  set_seam : (x y : ℕ) → set (take i a ++ (x ∷ drop (suc i) b)) i y ≡ take i a ++ (y ∷ drop (suc i) b)
  set_seam x y = set_at (take i a) x (drop (suc i) b) y i (length-take-le i a (le_of_lt ha))

  -- one more from the front, one more from the back
  pub filled_more : set (filled i a b) i (get_or a i 0) ≡ filled (i + 1) a b
  filled_more = rw (seam_before, seam_after) (set_seam (get_or b i 0) (get_or a i 0))

  pub filled_less : set (filled (i + 1) a b) i (get_or b i 0) ≡ filled i a b
  filled_less = rw (seam_before, seam_after) (set_seam (get_or a i 0) (get_or b i 0))

  pub get_or-filled : get_or (filled i a b) i 0 ≡ get_or b i 0
  get_or-filled = rw seam_before (get_or_at (take i a) (get_or b i 0) (drop (suc i) b) 0 i (length-take-le i a (le_of_lt ha)))

pub filled-whole : (a b : List ℕ) → length b ≡ length a → filled (length a) a b ≡ a
filled-whole a b e = ap₂ (λ s t. s ++ t) (take-length a) (rw (← e) (drop-length b)) ∙ append-nil a

-- A loop from the front, at turn i of n: the n elements of new are being written over old, and now is what stands there.
pub record Filling (new old now : List ℕ) (n i : ℕ) : Type 0 where
  pub within : i ≤ n
  pub long : length now ≡ length old
  pub holds : now ≡ filled i new old

pub filling_start : (new old : List ℕ) (n : ℕ) → Filling new old old n 0
filling_start new old n = record { within = omega arith; long = refl; holds = refl }

module _ (new old : List ℕ) (n : ℕ) (size : length new ≡ n) (room : n ≤ length old) (now : List ℕ) (i : ℕ) (f : Filling new old now n i) where
  -- one element more, whatever the loop computes it from
  pub filling_more : i < n → (v : ℕ) → v ≡ get_or new i 0 → Filling new old (set now i v) n (i + 1)
  filling_more h v e = record {
    within = omega arith;
    long = length-set now i v ∙ f.long;
    holds = ap (λ l. set l i v) f.holds ∙ rw e (filled_more i new old (omega arith) (omega arith));
  }

  -- what stands at i is still the old one
  pub filling_at : i < n → get_or now i 0 ≡ get_or old i 0
  filling_at h = rw f.holds (get_or-filled i new old (omega arith) (omega arith))

  pub filling_end : n ≤ i → now ≡ over new old
  unfolding over
  filling_end h =
      let done : i ≡ length new = omega (arith, f.within) in
      f.holds ∙ rw done (ap (λ t. t ++ drop (length new) old) (take-length new))
