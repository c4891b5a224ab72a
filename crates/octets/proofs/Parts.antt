-- A buffer whose parts are lent and filled one after the other, two or three of them, ends up as what they were filled with.
-- Assumes nothing.
use mathlib.Core.Path.{◌≡◌, ap, ◌∙◌}
use Prim.Native.Nat.{ℕ, ◌+◌, ◌-◌, ◌≤◌}
use native.Mathlib.Omega.{arith}
use mathlib.Core.List.{List, ◌++◌, append_assoc}
use lib.ListN.{length, take, drop, length-append, length-drop}
use lib.Seq.{length-take-le}
use borrow.Rule.Slice.PartMut.{put_mid}
use Rattle.octets.specs.Octets.{over, lay}
use Rattle.octets.proofs.Runs.{length_over}
use Rattle.octets.proofs.Lay.{lay-over, over-all}

pub part-long : (at k : ℕ) (xs : List ℕ) → at + k ≤ length xs → length (take k (drop at xs)) ≡ k
part-long at k xs h = length-take-le k (drop at xs) (omega (arith, length-drop at xs))

-- a part that comes back is laid where it was lent
pub back : (at k : ℕ) (new old : List ℕ) → length new ≡ k → put_mid at k old new ≡ lay at new old
unfolding lay
back at k new old e = rw e

-- the first part
pub begun_is : (k : ℕ) (new old last : List ℕ) → last ≡ new → length new ≡ k → last ++ drop k old ≡ over new old
unfolding over
begun_is k new old last e h = rw (e, h)

-- the part right behind what is filled, and the part that fills the rest
module _ (at : ℕ) (done old now : List ℕ) (so_far : now ≡ over done old) (long : length done ≡ at) where
  next_is : (k : ℕ) (new last : List ℕ) → last ≡ new → length new ≡ k → put_mid at k now last ≡ over (done ++ new) old
  next_is k new last e h = rw e (back at k new now h ∙ ap (lay at new) so_far ∙ lay-over at done new old long)

  pub rest-long : (k : ℕ) → at + k ≡ length old → length (take (length now - at) (drop at now)) ≡ k
  rest-long k h =
      let size : length now ≡ length old = ap length so_far ∙ length_over done old (omega arith) in
      part-long at (length now - at) now (omega arith) ∙ omega arith

  pub rest_is : (new last : List ℕ) → last ≡ new → at + length new ≡ length old → put_mid at (length now - at) now last ≡ done ++ new
  rest_is new last e h =
      let size : length now ≡ length old = ap length so_far ∙ length_over done old (omega arith) in
      next_is (length now - at) new last e (omega arith) ∙ over-all (done ++ new) old (length-append done new ∙ omega arith)

-- Two parts: a, of k bytes, and the rest.
module _ (k : ℕ) (a old x : List ℕ) (is-a : x ≡ a) (a-long : length a ≡ k) where
  abbrev begun : List ℕ
  begun = x ++ drop k old

  pub second-long : (w : ℕ) → k + w ≡ length old → length (take (length begun - k) (drop k begun)) ≡ w
  second-long = rest-long k a old begun (begun_is k a old x is-a a-long) a-long

  pub two-filled : (b y : List ℕ) → y ≡ b → k + length b ≡ length old → put_mid k (length begun - k) begun y ≡ a ++ b
  two-filled = rest_is k a old begun (begun_is k a old x is-a a-long) a-long

  -- Three parts: a, then b, of m bytes, and the rest.
  module _ (m : ℕ) (b y : List ℕ) (is_b : y ≡ b) (b-long : length b ≡ m) where
    abbrev going : List ℕ
    going = put_mid k m begun y

    going_is : going ≡ over (a ++ b) old
    going_is = next_is k a old begun (begun_is k a old x is-a a-long) a-long m b y is_b b-long

    both_long : length (a ++ b) ≡ k + m
    both_long = length-append a b ∙ omega arith

    pub third-long : (w : ℕ) → k + m + w ≡ length old → length (take (length going - (k + m)) (drop (k + m) going)) ≡ w
    third-long = rest-long (k + m) (a ++ b) old going going_is both_long

    pub three-filled : (d z : List ℕ) → z ≡ d → k + m + length d ≡ length old → put_mid (k + m) (length going - (k + m)) going z ≡ a ++ (b ++ d)
    three-filled d z is-d h = rest_is (k + m) (a ++ b) old going going_is both_long d z is-d h ∙ append_assoc a b d
