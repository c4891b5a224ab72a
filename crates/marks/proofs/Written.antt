-- The two ways to hold uses: each as one element, and each as two bytes.
-- Assumes nothing.
use mathlib.Core.Path.{◌≡◌, refl, sym, ap, ◌∙◌}
use Prim.Native.Nat.{ℕ, ◌*◌, ◌/◌, ◌<◌}
use native.Mathlib.Nat.{mul_comm}
use native.Mathlib.Numerals.{add-one}
use native.Mathlib.Omega.{arith}
use mathlib.Core.List.{List, [], ◌∷◌, ◌++◌}
use lib.ListN.{length, take, drop, set}
use lib.Seq.{set_split, drop-drop}
use borrow.Author.Tests.{lt-ltb}
use Rattle.space.specs.Lists.{Below}
use Rattle.octets.specs.Octets.{bytes, flat, lay, over}
use Rattle.octets.proofs.Runs.{length-flat, flat-snoc, length_over, over_none}
use Rattle.octets.proofs.Back.{over-flat}
use Rattle.octets.proofs.Lay.{over-all, lay-over}
use Rattle.doubles.specs.Doubles.{pairs_in, put_pair}
use Rattle.doubles.proofs.Doubles.{length_pairs}
use Rattle.marks.specs.Uses.{Written, KeptBack}

-- ---- each as one element

set-laid : (i x : ℕ) (old : List ℕ) → i < length old → set old i x ≡ lay i (x ∷ []) old
unfolding lay
set-laid i x old h = set_split old i x h ∙ ap (λ (t : List ℕ). take i old ++ (x ∷ t)) (sym (drop-drop 1 i old ∙ ap (λ (k : ℕ). drop k old) (add-one i)))

pub whole : Written (λ k. k) (λ i x uses. set uses i x) over
whole = record {
  nothing = over_none;
  one_more = λ before x lent room.
      set-laid (length before) x (over before lent) (omega (arith, length_over before lent)) ∙ lay-over (length before) before (x ∷ []) lent refl;
}

pub whole_back : (lent : List ℕ) → KeptBack (λ k. k) (λ uses. uses) over lent
whole_back lent = record { room = refl; back = λ uses room. over-all (over uses lent) lent (length_over uses lent room) }

-- ---- each as two bytes

flat_none : flat 2 [] ≡ []
unfolding flat
flat_none = refl

pub pair-laid : (i x : ℕ) (old : List ℕ) → i < length old / 2 → put_pair i x old ≡ lay (i * 2) (bytes 2 x) old
unfolding put_pair
pair-laid i x old h = rw (lt-ltb i (length old / 2) h) (ap (λ (k : ℕ). lay k (bytes 2 x) old) (mul_comm 2 i))

pub in_pairs : Written (λ k. k / 2) put_pair (λ uses bytes. over (flat 2 uses) bytes)
in_pairs = record {
  nothing = λ lent. ap (λ (t : List ℕ). over t lent) flat_none ∙ over_none lent;
  one_more = λ before x lent room.
      pair-laid (length before) x (over (flat 2 before) lent) (omega (arith, length_over (flat 2 before) lent, length-flat 2 before))
      ∙ lay-over (length before * 2) (flat 2 before) (bytes 2 x) lent (length-flat 2 before)
      ∙ ap (λ (t : List ℕ). over t lent) (sym (flat-snoc 2 before x));
}

pub pairs_back : (lent : List ℕ) → Below 256 lent → KeptBack (λ k. k / 2) pairs_in (λ uses bytes. over (flat 2 uses) bytes) lent
pairs_back lent low = record {
  room = length_pairs lent;
  back = λ uses room. over-flat 2 uses (length lent / 2) lent room (omega arith) low;
}
