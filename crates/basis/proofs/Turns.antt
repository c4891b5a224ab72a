-- A pass taken up at a slot: the three ways that it goes on from there.
-- Assumes nothing.
use mathlib.Core.Path.{◌≡◌}
use Prim.Native.Nat.{ℕ, suc, ◌+◌, ◌-◌, ◌<◌}
use mathlib.Core.Bool.{true, false}
use mathlib.Core.List.{List}
use lib.ListN.{length, get_or, drop, length-drop}
use lib.Seq.{drop-cons, drop-length}
use Rattle.space.specs.Space.{◌⊕◌}
use Rattle.basis.specs.Algorithm2.{digit, later, pass}

module _ (t : ℕ) (ss : List ℕ) (u : ℕ) (h : u < length ss) (w : ℕ) where
  rest : length (drop (suc u) ss) ≡ length ss - suc u
  rest = length-drop (suc u) ss

  pub turn_skip : digit (t + (length ss - suc u)) w ≡ false → pass t (drop u ss) w ≡ later (pass t (drop (suc u) ss) w)
  unfolding pass
  turn_skip e = rw (drop-cons ss u 0 h) (rw rest (rw e))

  pub turn_stop : digit (t + (length ss - suc u)) w ≡ true → digit (t + (length ss - suc u)) (get_or ss u 0) ≡ false
      → pass t (drop u ss) w ≡ record { vector = w; stop = 0 }
  unfolding pass
  turn_stop e d = rw (drop-cons ss u 0 h) (rw rest (rw e (rw d)))

  pub turn_add : digit (t + (length ss - suc u)) w ≡ true → digit (t + (length ss - suc u)) (get_or ss u 0) ≡ true
      → pass t (drop u ss) w ≡ later (pass t (drop (suc u) ss) (w ⊕ get_or ss u 0))
  unfolding pass
  turn_add e d = rw (drop-cons ss u 0 h) (rw rest (rw e (rw d)))

-- past the last slot
pub turn_end : (t : ℕ) (ss : List ℕ) (w : ℕ) → pass t (drop (length ss) ss) w ≡ record { vector = w; stop = 0 }
unfolding pass
turn_end t ss w = rw (drop-length ss)
