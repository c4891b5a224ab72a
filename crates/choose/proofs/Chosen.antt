-- The choice in the words of a reading: few and tied exactly where the definition says so, and else the rows that it picks.
-- Assumes nothing.
use mathlib.Core.Path.{◌≡◌, refl, ap}
use Prim.Native.Nat.{ℕ}
use native.Mathlib.Omega.{arith}
use mathlib.Core.Bool.{Bool, true, false, cond, not}
use mathlib.Core.List.{List, map}
use lib.Dec.{eqb, ltb, leb}
use lib.ListN.{length}
use borrow.Author.Tests.{eqb-true}
use Rattle.space.specs.Lists.{marked}
use Rattle.reading.specs.Reading.{rank, uses, picks, picked, few, tie}
use Rattle.reading.proofs.Pick.{length-uses}
use Rattle.std.specs.Prelude.{Result, Ok, Err}
use Rattle.choose.specs.declared.Unpicked.{Unpicked}
use Rattle.choose.specs.declared.Unpicked.TheVariants.{Few, Tie}
use Rattle.choose.specs.Pick.{least, choice_of}
use Rattle.choose.proofs.Threshold.{picks-least}

-- a number is given only where n are picked, and they are those that reach it
pub picked_reach : (n : ℕ) (us : List ℕ) (t : ℕ) → Ok t ≡ choice_of n us → (marked (picks n us) ≡ n) × (picks n us ≡ map (leb t) us)
unfolding choice_of
picked_reach n us t e = go (ltb (length us) n) (eqb (marked (picks n us)) n) refl e
  where
    go : (f m : Bool) → eqb (marked (picks n us)) n ≡ m → Ok t ≡ cond f (Err Few) (cond m (Ok (least n us)) (Err Tie))
        → (marked (picks n us) ≡ n) × (picks n us ≡ map (leb t) us)
    go true m p q = let z : ◌≡◌ {A = ℕ} 0 1 = cc in absurd (omega arith)
    go false true p q = let same : t ≡ least n us = cc in (eqb-true (marked (picks n us)) n p, rw same (picks-least n us))
    go false false p q = let z : ◌≡◌ {A = ℕ} 0 1 = cc in absurd (omega arith)

-- What a choice says of the rows.
abbrev pub Says : ℕ → List ℕ → Result ℕ Unpicked → Type 0
Says n rows (Err Few) = few n rows ≡ true
Says n rows (Err Tie) = (few n rows ≡ false) × (tie n rows ≡ true)
Says n rows (Ok t) = (few n rows ≡ false) × (tie n rows ≡ false) × (picked n rows ≡ map (leb t) (uses rows))

module _ (n : ℕ) (rows : List ℕ) where
  pub choice_is : choice_of n (uses rows) ≡ cond (few n rows) (Err Few) (cond (tie n rows) (Err Tie) (Ok (least n (uses rows))))
  unfolding choice_of few tie picked
  choice_is = rw (length-uses rows) (ap (cond (ltb (rank rows) n) (Err Few)) (turned (eqb (marked (picks n (uses rows))) n)))
    where
      turned : (b : Bool) → cond b (Ok (least n (uses rows))) (Err Tie) ≡ cond (not b) (Err Tie) (Ok (least n (uses rows)))
      turned true = refl
      turned false = refl

  pub choice_says : (choice : Result ℕ Unpicked) → choice ≡ choice_of n (uses rows) → Says n rows choice
  choice_says choice e = rw (e, choice_is) (go (few n rows) refl (tie n rows) refl)
    where
      go : (f : Bool) → few n rows ≡ f → (t : Bool) → tie n rows ≡ t → Says n rows (cond f (Err Few) (cond t (Err Tie) (Ok (least n (uses rows)))))
      go true p t q = p
      go false p true q = (p, q)
      go false p false q = (p, q, unfold picked in picks-least n (uses rows))
